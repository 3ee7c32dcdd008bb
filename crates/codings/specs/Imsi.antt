-- IMSI, 9 bytes: length 1 to 8; low half of byte 2 is 9 for an odd digit count, 1 for even; first digit above it; then low half
-- first; the last half F when even; FF after the length. 1 to 15 digits.
use Rattle.std.specs.Prelude.{ℕ, ◌+◌, ◌-◌, ◌/◌, ◌%◌, List, [], ◌∷◌, Bool, true, false, ◌&&◌, ◌||◌, eqb, leb, length, get_or, take, drop}
use Rattle.codings.specs.Answers.{Outcome, judge}
use Rattle.fields.specs.Halves.{halves, joined}
use Rattle.fields.specs.Text.{filled, padded, within}

-- the halves of the bytes that the length counts, low half first, and the bytes after them
abbrev pub counted : List ℕ → List ℕ
counted l = halves (take (get_or l 0 0) (drop 1 l))

abbrev pub after : List ℕ → List ℕ
after l = drop (get_or l 0 0) (drop 1 l)

-- an odd digit count: 9, and digits up to the end
unfoldable pub odd : List ℕ → Bool
odd hs = eqb (get_or hs 0 0) 9 && within 10 (drop 1 hs)

-- an even digit count: 1, at least one digit, and F in the last half
unfoldable pub even : List ℕ → Bool
even hs =
    leb 3 (length hs)
    && (eqb (get_or hs 0 0) 1 && (eqb (get_or hs (length hs - 1) 0) 15 && within 10 (take (length hs - 2) (drop 1 hs))))

-- length 1 to 8, FF after the length, and an odd or an even digit count
unfoldable pub numbered : List ℕ → Bool
numbered l =
    leb 1 (get_or l 0 0) && (leb (get_or l 0 0) 8 && (filled 255 (after l) && (odd (counted l) || even (counted l))))

-- the digits: all halves after the first, without the last F where the count is even
unfoldable pub digits_in : List ℕ → List ℕ
digits_in hs = elim (odd hs) [ true ↦ drop 1 hs | false ↦ take (length hs - 2) (drop 1 hs) ]

-- the digits of a file
unfoldable pub decode : List ℕ → Outcome (List ℕ)
decode l = judge (eqb (length l) 9) (numbered l) [] (digits_in (counted l))

-- 1 to 15 digits, each below 10
unfoldable pub writable : List ℕ → Bool
writable digits = leb 1 (length digits) && (leb (length digits) 15 && within 10 digits)

-- the length and the low half of byte 2 for so many digits
abbrev pub size : ℕ → ℕ
size count = count / 2 + 1

unfoldable pub mark : ℕ → ℕ
mark count = elim (eqb (count % 2) 1) [ true ↦ 9 | false ↦ 1 ]

-- the file of these digits, in the room of another: F in all halves after them
unfoldable pub encode : List ℕ → List ℕ → Outcome (List ℕ)
encode digits room =
    judge (eqb (length room) 9) (writable digits) room
    (size (length digits) ∷ joined (mark (length digits) ∷ padded 15 15 digits))
