-- IMSI: the count of the digits, and the halves that are written.
use Prim.Native.Nat.{ℕ, zero, suc, ◌+◌, ◌-◌, ◌/◌, ◌≤◌, ◌<◌}
use mathlib.Core.Path.{◌≡◌, ap}
use mathlib.Core.List.{List, ◌∷◌}
use mathlib.Core.Bool.{true, ◌&&◌}
use native.Mathlib.Omega.{arith}
use borrow.Author.Tests.{eqb-true, leb-true}
use lib.Dec.{leb, eqb}
use lib.ListN.{length, get_or, take, drop, length-drop}
use lib.Seq.{take_all}
use Rattle.fields.specs.Halves.{halves, joined, Halved}
use Rattle.fields.specs.Text.{lead, padded, closed, within}
use Rattle.codings.specs.Imsi.{mark, size, writable}
use Rattle.codings.specs.ImsiByCount.{digits_in, numbered}
use Rattle.codings.proofs.Laws.Tests.{both}
use Rattle.codings.proofs.Laws.Imsi.{mark_small}
use Rattle.fields.proofs.Laws.Fields.{padded_length}
use Rattle.fields.proofs.Laws.Digits.{padded_small}
use Rattle.fields.proofs.Laws.Halves.{halves_length}
use Rattle.fields.proofs.Laws.Text.{text_length}

-- hs are the halves, n is how many digits lead after the first three
pub tells : (l hs : List ℕ) (n : ℕ) → length l ≡ 9 → hs ≡ halves l → n ≡ lead 10 (take (18 - 3) (drop 3 hs))
    → numbered l ≡ closed 10 15 (take (18 - 3) (drop 3 hs)) && (leb 1 n && (eqb (get_or l 0 0) (n / 2 + 1) && eqb (get_or hs 2 0) (mark n)))
unfolding numbered digits_in
tells l hs n fits e en =
    let f : take 15 (drop 3 hs) ≡ drop 3 (halves l) =
    rw e (take_all 15 (drop 3 (halves l)) (omega (arith, length-drop 3 (halves l), halves_length l)))
    in
    rw (en, f, e, text_length 10 15 (drop 3 (halves l)))

-- the halves of a file, the high half of the first byte 0
abbrev pub in_halves : List ℕ → List ℕ
in_halves digits = size (length digits) ∷ 0 ∷ mark (length digits) ∷ padded 15 15 digits

module _ (digits room : List ℕ) (fits : length room ≡ 9) (w : writable digits ≡ true) where
  pub joins : Halved (in_halves digits) room
  unfolding writable within
  joins =
      let g = both (leb 1 (length digits)) (leb (length digits) 15 && within 10 digits) w in
      let h = both (leb (length digits) 15) (within 10 digits) g.1 in
      let few = leb-true _ _ h.0 in
      record { twice = omega (arith, padded_length 15 15 digits few); small = each few (eqb-true _ _ h.1) }
    where
      each : length digits ≤ 15 → lead 10 digits ≡ length digits → (i : ℕ) → get_or (in_halves digits) i 0 < 16
      each few d zero = omega arith
      each few d (suc zero) = omega arith
      each few d (suc (suc zero)) = mark_small (length digits)
      each few d (suc (suc (suc i))) = padded_small 15 digits few d i

pub first_byte : (digits : List ℕ) → joined (in_halves digits) ≡ size (length digits) ∷ joined (mark (length digits) ∷ padded 15 15 digits)
unfolding joined
first_byte digits = ap (λ (b : ℕ). b ∷ joined (mark (length digits) ∷ padded 15 15 digits)) (omega arith)
