-- The IMSI read the other way round: take the digits that stand after the low half of byte 2, and ask that length and half are
-- those of their count. It takes the same files with the same digits.
use Rattle.std.specs.Prelude.{ℕ, ◌≡◌, List, [], Bool, ◌&&◌, eqb, leb, length, get_or, drop}
use Rattle.codings.specs.Answers.{Outcome, judge}
use Rattle.fields.specs.Halves.{halves}
use Rattle.fields.specs.Text.{text, closed}
use Rattle.codings.specs.Imsi as imsi
use Rattle.codings.specs.Imsi.{mark, size}

-- the digits: after the two halves of byte 1 and the low half of byte 2
unfoldable pub digits_in : List ℕ → List ℕ
digits_in l = text 10 (drop 3 (halves l))

-- F after the digits, at least one of them, and the length and the half of their count
unfoldable pub numbered : List ℕ → Bool
numbered l =
    closed 10 15 (drop 3 (halves l))
    && (leb 1 (length (digits_in l))
    && (eqb (get_or l 0 0) (size (length (digits_in l))) && eqb (get_or (halves l) 2 0) (mark (length (digits_in l)))))

unfoldable pub decode : List ℕ → Outcome (List ℕ)
decode l = judge (eqb (length l) 9) (numbered l) [] (digits_in l)

-- Both ways of reading give the same outcome.
abbrev pub ByCount : Type 0
ByCount = (l : List ℕ) → decode l ≡ imsi.decode l
