-- Paper 01, "Records": READ RECORD and UPDATE RECORD. "Mode 02 next, 03 previous, 04 absolute, or current where P1 is 0. In 02 and 03 P1
-- is not read." Records count from 1, and 0 says that there is none.
use Rattle.std.specs.Prelude.{ℕ, ◌+◌, ◌-◌, ◌*◌, ◌%◌, List, [], ◌∷◌, Bool, true, false, ◌&&◌, ◌||◌, not, length, eqb, leb, ltb, Option, Some, None}
use Rattle.card.specs.Bytes.{part, splice}
use Rattle.card.specs.Layout.{records, transparent, cyclic}
use Rattle.card.specs.Access.{shared}
use Rattle.card.specs.Sessions.{points, dropped}
use Rattle.card.specs.Answers.{Refusal, Reply, reply, refusal, Written, written, unless, ◌says◌}
use Rattle.card.specs.declared.Entry.{Entry}
use Rattle.card.specs.declared.Rights.{Rights}
use Rattle.card.specs.declared.Session.{Session}
use Rattle.card.specs.declared.Act.{Act}
use Rattle.card.specs.declared.Act.TheVariants.{Read, Update}

-- "From undefined, next is the first and previous the last. At the end a linear file answers 94 02, a cyclic one goes round."
abbrev pub next : Entry → Option ℕ → ℕ
next e None = 1
next e (Some k) = elim (ltb k (records e)) [ true ↦ k + 1 | false ↦ elim (cyclic e) [ true ↦ 1 | false ↦ 0 ] ]

abbrev pub previous : Entry → Option ℕ → ℕ
previous e None = records e
previous e (Some k) = elim (ltb 1 k) [ true ↦ k - 1 | false ↦ elim (cyclic e) [ true ↦ records e | false ↦ 0 ] ]

-- "Absolute, or current where P1 is 0; current while undefined is 94 02."
abbrev pub current_record : Option ℕ → ℕ
current_record None = 0
current_record (Some k) = k

abbrev pub absolute : Entry → ℕ → Option ℕ → ℕ
absolute e n p = elim (eqb n 0) [ true ↦ current_record p | false ↦ elim (leb n (records e)) [ true ↦ n | false ↦ 0 ] ]

-- the record that a mode chooses
unfoldable pub chosen : Entry → ℕ → ℕ → Option ℕ → ℕ
chosen e n mode p =
    elim (eqb mode 2) [ true ↦ next e p | false ↦ elim (eqb mode 3) [ true ↦ previous e p | false ↦ absolute e n p ] ]

-- "The record reached becomes the pointer. 04 never moves the pointer."
abbrev pub moved : ℕ → ℕ → Session → Session
moved mode k s = elim (eqb mode 4) [ true ↦ s | false ↦ points (Some k) s ]

-- Where record k starts in the file's bytes. "Top names the stored place of record 1; record 2 is the next place, round the end"; on
-- a linear file top is 0.
abbrev pub record_at : Entry → ℕ → ℕ
record_at e k = (e.top + k - 1) % records e * e.width

-- "A record command's P3 must equal the record length, else that 67"; then 94 02 where there is no record: record k, of n bytes
unfoldable pub of_record : Rights → Entry → Act → Bool → ℕ → ℕ → List Refusal
of_record r e a suits k n =
    shared r e a suits (not (eqb n e.width) says (0x6700 + e.width) ∷ eqb k 0 says 0x9402 ∷ [])

unfoldable pub read_record : Rights → Entry → List ℕ → Session → ℕ → ℕ → ℕ → Reply
read_record r e b s number mode n =
    let k = chosen e number mode s.pointer in
    unless (of_record r e Read (not (transparent e)) k n) (refusal s)
    (reply (part b (record_at e k) n) 0x9000 (moved mode k (dropped s)))

-- "it overwrites the oldest, which becomes record 1"
abbrev pub pushed : Entry → List ℕ → List ℕ → Reply → Written
pushed e b new r =
    written (splice b (record_at e (records e)) e.width new) ((e.top + records e - 1) % records e) r

-- "UPDATE RECORD on a cyclic file takes only mode 03 (else 94 08)"
abbrev pub updatable : ℕ → Entry → Bool
updatable mode e = not (transparent e) && (not (cyclic e) || eqb mode 3)

-- "and the pointer is 1" on a cyclic file
unfoldable pub update_record : Rights → Entry → List ℕ → Session → ℕ → ℕ → List ℕ → Written
update_record r e b s number mode new =
    let k = chosen e number mode s.pointer in
    unless (of_record r e Update (updatable mode e) k (length new)) (λ w. written b e.top (refusal s w))
    (elim (cyclic e) [
      | true ↦ pushed e b new (reply [] 0x9000 (points (Some 1) (dropped s)))
      | false ↦ written (splice b (record_at e k) e.width new) e.top (reply [] 0x9000 (moved mode k (dropped s)))
    ])
