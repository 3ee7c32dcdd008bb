-- IMSI read by its digits' count, there and back.
use Prim.Native.Nat.{ℕ, zero, suc, ◌/◌, ◌%◌, ◌≤◌, ◌<◌}
use mathlib.Core.Path.{◌≡◌, refl, ap, ◌∙◌, sym}
use mathlib.Core.List.{List, [], ◌∷◌}
use mathlib.Core.Bool.{true, ◌&&◌}
use native.Mathlib.Omega.{arith}
use borrow.Author.Tests.{eq-eqb, eqb-true, le-leb, leb-true}
use lib.Dec.{eqb, leb}
use lib.ListN.{length, get_or, drop, length-drop}
use lib.Seq.{drop-cons}
use Rattle.codings.specs.Answers.{done}
use Rattle.fields.specs.Halves.{halves, joined}
use Rattle.fields.specs.Text.{padded, text, closed, within}
use Rattle.codings.specs.Imsi.{mark, size, writable, encode}
use Rattle.codings.specs.ImsiByCount.{digits_in, numbered, decode}
use Rattle.codings.proofs.Laws.Answers.{right, was_done}
use Rattle.codings.proofs.Laws.Tests.{both}
use Rattle.fields.proofs.Laws.Fields.{padded_length}
use Rattle.fields.proofs.Laws.Halves.{halves_length, joined_length, joined_halves, halves_joined}
use Rattle.fields.proofs.Laws.Digits.{padded_small}
use Rattle.codings.proofs.Laws.Imsi.{mark_small}
use Rattle.fields.proofs.Laws.Text.{lead_le, closed_padded, text_padded, text_length, text_within, padded_text}

module _ (t : List ℕ) (some : 1 ≤ length t) (h : length t ≤ 15) (w : within 10 t ≡ true) where
  abbrev coded : List ℕ
  coded = size (length t) ∷ joined (mark (length t) ∷ padded 15 15 t)

  coded_halves : halves coded ≡ size (length t) % 16 ∷ size (length t) / 16 ∷ mark (length t) ∷ padded 15 15 t
  unfolding halves within
  coded_halves = rw (halves_joined (mark (length t) ∷ padded 15 15 t) 8 (ap suc (padded_length 15 15 t h)) small)
    where
      small : (i : ℕ) → get_or (mark (length t) ∷ padded 15 15 t) i 0 < 16
      small zero = mark_small (length t)
      small (suc i) = padded_small 15 t h (eqb-true _ _ w) i

  digits_back : digits_in coded ≡ t
  unfolding digits_in
  digits_back = rw coded_halves (text_padded 10 15 15 t (omega arith) w)

  back : decode coded ≡ done t
  unfolding decode numbered
  back =
      sym
      (right _ _ _ _ (eq-eqb _ _ (ap suc (joined_length (mark (length t) ∷ padded 15 15 t) 8 (ap suc (padded_length 15 15 t h)))))
      (rw (
        digits_back,
        coded_halves,
        closed_padded 10 15 15 t (omega arith) w,
        le-leb 1 (length t) some,
        eq-eqb (size (length t)) (size (length t)) refl,
        eq-eqb (mark (length t)) (mark (length t)) refl,
      )))
      ∙ rw digits_back

pub encoded : (t room : List ℕ) → (encode t room).answer ≡ 0 → decode (encode t room).value ≡ done t
unfolding encode writable
encoded t room a =
    let d = was_done _ _ _ _ a in
    let g = both (leb 1 (length t)) (leb (length t) 15 && within 10 t) d.1 in
    let k = both (leb (length t) 15) (within 10 t) g.1 in
    rw (← right (eqb (length room) 9) (writable t) room (size (length t) ∷ joined (mark (length t) ∷ padded 15 15 t)) d.0 d.1)
    (back t (leb-true _ _ g.0) (leb-true _ _ k.0) k.1)

-- What the test tells.
pub record Told (l : List ℕ) : Type 0 where
  pub shut : closed 10 15 (drop 3 (halves l)) ≡ true
  pub some : 1 ≤ length (digits_in l)
  pub bytes : get_or l 0 0 ≡ size (length (digits_in l))
  pub marked : get_or (halves l) 2 0 ≡ mark (length (digits_in l))

pub told : (l : List ℕ) → numbered l ≡ true → Told l
unfolding numbered
told l n =
    let k = length (digits_in l) in
    let a = both (closed 10 15 (drop 3 (halves l))) (leb 1 k && (eqb (get_or l 0 0) (size k) && eqb (get_or (halves l) 2 0) (mark k))) n in
    let b = both (leb 1 k) (eqb (get_or l 0 0) (size k) && eqb (get_or (halves l) 2 0) (mark k)) a.1 in
    let c = both (eqb (get_or l 0 0) (size k)) (eqb (get_or (halves l) 2 0) (mark k)) b.1 in
    record { shut = a.0; some = leb-true _ _ b.0; bytes = eqb-true _ _ c.0; marked = eqb-true _ _ c.1 }

-- a first byte, and the halves of the others from their parts
built : (b b' m : ℕ) (hs p : List ℕ) → b ≡ b' → get_or hs 0 0 ≡ m → p ≡ drop 1 hs → 0 < length hs
    → b' ∷ joined (m ∷ p) ≡ b ∷ joined hs
built b b' m hs p eb em ep h = rw (← eb, ← em, ep) (ap (λ (x : List ℕ). b ∷ joined x) (sym (drop-cons hs 0 0 h)))

-- the bytes that were read
again : (l : List ℕ) → length l ≡ 9 → Told l
    → size (length (digits_in l)) ∷ joined (mark (length (digits_in l)) ∷ padded 15 15 (digits_in l)) ≡ l
unfolding halves digits_in
again [] e t = absurd (omega arith)
again (b ∷ xs) e t =
    let n : length (drop 1 (halves xs)) ≡ 15 = omega (arith, length-drop 1 (halves xs), halves_length xs) in
    let p = ap (λ (m : ℕ). padded 15 m (digits_in (b ∷ xs))) (sym n) ∙ padded_text 10 15 (drop 1 (halves xs)) t.shut in
    built b _ _ (halves xs) _ t.bytes t.marked p (omega (arith, halves_length xs)) ∙ rw (joined_halves xs)

-- the digits that were read can be written
fit : (l : List ℕ) → length l ≡ 9 → Told l → writable (digits_in l) ≡ true
unfolding writable digits_in
fit l e t =
    let f = drop 3 (halves l) in
    rw (
      le-leb 1 (length (text 10 f)) t.some,
      le-leb (length (text 10 f)) 15 (omega (arith, text_length 10 15 f, lead_le 10 f, length-drop 3 (halves l), halves_length l)),
      text_within 10 15 f,
    )

forth : (l room : List ℕ) → length l ≡ 9 → length room ≡ 9 → Told l → encode (digits_in l) room ≡ done l
unfolding encode
forth l room e r t = sym (right _ _ _ _ (eq-eqb _ _ r) (fit l e t)) ∙ ap done (again l e t)

pub decoded : (l room : List ℕ) → (decode l).answer ≡ 0 → length room ≡ 9 → encode (decode l).value room ≡ done l
unfolding decode
decoded l room a r =
    let d = was_done _ _ _ _ a in
    rw (← right (eqb (length l) 9) (numbered l) [] (digits_in l) d.0 d.1)
    (forth l room (eqb-true _ _ d.0) r (told l d.1))
