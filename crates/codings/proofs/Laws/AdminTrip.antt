-- Administrative data, there and back.
use Prim.Native.Nat.{ℕ, ◌+◌, ◌*◌, ◌/◌, ◌%◌, ◌≤◌}
use mathlib.Core.Path.{◌≡◌, refl, ap, ◌∙◌, sym}
use mathlib.Core.List.{List}
use mathlib.Core.Bool.{true, ◌&&◌, not}
use native.Mathlib.Omega.{arith}
use borrow.Author.Tests.{leb-true, eqb-true, eqb-false, not-true}
use native.Mathlib.Decide.{ℕ_discrete}
use lib.Dec.{leb, eqb}
use lib.ListN.{length, get_or, set, length-set}
use lib.Seq.{get_or-set_same, get_or-set_other, set-get_or}
use Rattle.codings.specs.Answers.{done}
use Rattle.codings.specs.Admin.{Setting, setting, is_mode, two_or_three, mnc_in, fitting, decode, changed, encode}
use Rattle.codings.specs.RoundTrips.{Undecoded}
use Rattle.std.specs.Prelude.{Option, Some, None}
use Rattle.codings.proofs.Laws.Answers.{right, was_done, either}
use Rattle.codings.proofs.Laws.Tests.{both}
use Rattle.codings.proofs.Laws.Admin.{small, absent_in, digits_in, without, reads}

module _ (l : List ℕ) (m : ℕ) (h : 3 ≤ length l) (em : is_mode m ≡ true) where
  back : (v : Option ℕ) → fitting l v ≡ true → decode (changed l m v) ≡ done (setting m v)
  unfolding changed fitting
  back None f =
      let at0 = get_or-set_same l 0 m 0 (omega arith) in
      sym (without (set l 0 m) (simp length-set h) true (rw (at0, em)) refl (simp length-set (eqb-true _ _ f)))
      ∙ ap (λ (x : ℕ). done (setting x None)) at0
  back (Some n) f =
      let g = both (not (eqb (length l) 3)) (two_or_three n) f in
      let w = 16 * (get_or l 3 0 / 16) + n in
      let k : length l ≡ 3 → ⊥ = eqb-false _ _ (not-true _ g.0) in
      let at3 = get_or-set_same (set l 0 m) 3 w 0 (simp length-set (omega arith)) in
      let at0 = get_or-set_other (set l 0 m) 3 0 w 0 (λ z. omega arith) ∙ get_or-set_same l 0 m 0 (omega arith) in
      let low : n ≡ w % 16 = omega (arith, small n true (sym g.1) refl) in
      sym
      (reads (set (set l 0 m) 3 w) (simp length-set h) true (rw (at0, em)) refl (simp length-set k) n (rw at3 low) true (sym g.1) refl)
      ∙ ap (λ (x : ℕ). done (setting x (Some n))) at0

pub encoded : (v : Setting) (l : List ℕ) → (encode v l).answer ≡ 0 → decode (encode v l).value ≡ done v
unfolding encode
encoded v l a =
    let d = was_done _ _ _ _ a in
    let g = both (is_mode v.mode) (fitting l v.mnc) d.1 in
    rw (← right (leb 3 (length l)) (is_mode v.mode && fitting l v.mnc) l (changed l v.mode v.mnc) d.0 d.1)
    (back l v.mode (leb-true _ _ d.0) g.0 v.mnc g.1)

-- what is not decoded is kept
same : (l : List ℕ) → Undecoded l l
same l = record { long = refl; high = refl; rest = λ i a b. refl }

keeps : (l : List ℕ) (m : ℕ) (v : Option ℕ) → 3 ≤ length l → fitting l v ≡ true → Undecoded l (changed l m v)
unfolding changed fitting
keeps l m None h f =
    record {
      long = length-set l 0 m;
      high = rw (get_or-set_other l 0 3 m 0 (λ z. omega arith));
      rest = λ i a b. get_or-set_other l 0 i m 0 a;
    }
keeps l m (Some n) h f =
    let g = both (not (eqb (length l) 3)) (two_or_three n) f in
    let w = 16 * (get_or l 3 0 / 16) + n in
    let k : length l ≡ 3 → ⊥ = eqb-false _ _ (not-true _ g.0) in
    let at3 = get_or-set_same (set l 0 m) 3 w 0 (simp length-set (omega arith)) in
    record {
      long = simp length-set;
      high = rw at3 (omega (arith, small n true (sym g.1) refl));
      rest = λ i a b. get_or-set_other (set l 0 m) 3 i w 0 b ∙ get_or-set_other l 0 i m 0 a;
    }

pub undecoded : (v : Setting) (l : List ℕ) → Undecoded l (encode v l).value
unfolding encode
undecoded v l =
    either (λ (w : List ℕ). Undecoded l w) _ _ _ _ (same l)
    (λ f g. keeps l v.mode v.mnc (leb-true _ _ f) (both (is_mode v.mode) (fitting l v.mnc) g).1)

-- what was decoded is there already
forth : (l : List ℕ) → changed l (get_or l 0 0) (mnc_in l) ≡ l
unfolding changed
forth l = go (ℕ_discrete (length l) 3)
  where
    whole : (b : ℕ) → 16 * (b / 16) + b % 16 ≡ b
    whole b = omega arith

    go : Dec (length l ≡ 3) → changed l (get_or l 0 0) (mnc_in l) ≡ l
    go (yes e) = rw (← absent_in l e) (set-get_or l 0 0)
    go (no k) = rw (← digits_in l k, set-get_or l 0 0, whole (get_or l 3 0)) (set-get_or l 3 0)

pub decoded : (l : List ℕ) → (decode l).answer ≡ 0 → encode (decode l).value l ≡ done l
unfolding decode encode
decoded l a =
    let d = was_done _ _ _ _ a in
    let m = get_or l 0 0 in
    rw (← right (leb 3 (length l)) (is_mode m && fitting l (mnc_in l)) (setting 0 None) (setting m (mnc_in l)) d.0 d.1)
    (sym (right (leb 3 (length l)) (is_mode m && fitting l (mnc_in l)) l (changed l m (mnc_in l)) d.0 d.1) ∙ ap done (forth l))
