-- ICCID, 10 bytes: 1 to 20 digits, low half first, F after the last.
use Rattle.std.specs.Prelude.{ℕ, List, [], Bool, ◌&&◌, eqb, ltb, leb, length, get_or}
use Rattle.codings.specs.Answers.{Outcome, judge}
use Rattle.fields.specs.Halves.{halves, joined}
use Rattle.fields.specs.Text.{padded, text, closed, within}

-- the first half is a digit, and after the digits all is F
unfoldable pub numbered : List ℕ → Bool
numbered hs = ltb (get_or hs 0 0) 10 && closed 10 15 hs

-- the digits of a file
unfoldable pub decode : List ℕ → Outcome (List ℕ)
decode l = judge (eqb (length l) 10) (numbered (halves l)) [] (text 10 (halves l))

-- 1 to 20 digits, each below 10
unfoldable pub writable : List ℕ → Bool
writable digits = leb 1 (length digits) && (leb (length digits) 20 && within 10 digits)

-- the file of these digits, in the room of another
unfoldable pub encode : List ℕ → List ℕ → Outcome (List ℕ)
encode digits room = judge (eqb (length room) 10) (writable digits) room (joined (padded 15 20 digits))
