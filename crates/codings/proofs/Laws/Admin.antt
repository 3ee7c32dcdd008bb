-- Administrative data: the MNC length in a file, and each file that decodes or is too short.
use Prim.Native.Nat.{ℕ, ◌%◌, ◌≤◌, ◌<◌}
use mathlib.Core.Path.{◌≡◌, refl, ap, ◌∙◌, sym}
use mathlib.Core.List.{List}
use mathlib.Core.Bool.{Bool, true, false}
use native.Mathlib.Omega.{arith}
use borrow.Author.Tests.{eq-eqb, ne_eqb, eqb-true, le-leb, lt-leb}
use lib.Dec.{eqb}
use lib.ListN.{length, get_or}
use Rattle.codings.specs.Answers.{outcome, done}
use Rattle.codings.specs.Admin.{setting, among, is_mode, two_or_three, mnc_in, fitting, decode, encode}
use Rattle.std.specs.Prelude.{Option, Some, None}
use Rattle.codings.proofs.Laws.Answers.{wrong-length, right}

pub small : (n : ℕ) (t : Bool) → t ≡ two_or_three n → t ≡ true → n < 4
unfolding among
small n t e f = go (eqb n 2) refl (eqb n 3) refl (sym f ∙ e)
  where
    go : (a : Bool) → eqb n 2 ≡ a → (b : Bool) → eqb n 3 ≡ b
        → true ≡ elim a [ true ↦ true | false ↦ elim b [ true ↦ true | false ↦ false ] ] → n < 4
    go true p b q x = omega (arith, eqb-true n 2 p)
    go false p true q x = omega (arith, eqb-true n 3 q)
    go false p false q x = absurd (let z : ◌≡◌ {A = ℕ} 0 1 = cc in omega arith)

-- the length in 3 bytes, and in more
pub absent_in : (l : List ℕ) → length l ≡ 3 → None ≡ mnc_in l
unfolding mnc_in
absent_in l h = sym (ap (λ (t : Bool). elim t [ true ↦ None | false ↦ Some (get_or l 3 0 % 16) ]) (eq-eqb _ _ h))

pub digits_in : (l : List ℕ) → (length l ≡ 3 → ⊥) → Some (get_or l 3 0 % 16) ≡ mnc_in l
unfolding mnc_in
digits_in l h = sym (ap (λ (t : Bool). elim t [ true ↦ None | false ↦ Some (get_or l 3 0 % 16) ]) (ne_eqb _ _ h))

pub fits_absent : (l : List ℕ) → length l ≡ 3 → fitting l None ≡ true
unfolding fitting
fits_absent l h = eq-eqb _ _ h

pub fits_digits : (l : List ℕ) (n : ℕ) (t : Bool) → (length l ≡ 3 → ⊥) → t ≡ two_or_three n → fitting l (Some n) ≡ t
unfolding fitting
fits_digits l n t h e = rw (ne_eqb _ _ h, ← e)

-- m tells whether the mode is one, t whether the length is 2 or 3
module _ (l : List ℕ) where
  pub short : length l < 3 → outcome 5 (setting 0 None) ≡ decode l
  unfolding decode
  short h = wrong-length _ _ _ _ (lt-leb _ _ h)

  module _ (h : 3 ≤ length l) (m : Bool) (em : m ≡ is_mode (get_or l 0 0)) (e : m ≡ true) where
    pub without : length l ≡ 3 → done (setting (get_or l 0 0) None) ≡ decode l
    unfolding decode
    without k =
        ap (λ (n : Option ℕ). done (setting (get_or l 0 0) n)) (absent_in l k)
        ∙ right _ _ _ _ (le-leb _ _ h) (rw (← em, e, ← absent_in l k, fits_absent l k))

    pub reads : (length l ≡ 3 → ⊥) → (n : ℕ) → n ≡ get_or l 3 0 % 16 → (t : Bool) → t ≡ two_or_three n → t ≡ true
        → done (setting (get_or l 0 0) (Some n)) ≡ decode l
    unfolding decode
    reads k n en t et f =
        ap (λ (x : Option ℕ). done (setting (get_or l 0 0) x)) (ap Some en ∙ digits_in l k)
        ∙ right _ _ _ _ (le-leb _ _ h) (rw (← em, e, ← digits_in l k, ← en, fits_digits l n t k et, f))

pub no_room : (l : List ℕ) (mode : ℕ) (v : Option ℕ) → length l < 3 → outcome 5 l ≡ encode (setting mode v) l
unfolding encode
no_room l mode v h = wrong-length _ _ _ _ (lt-leb _ _ h)
