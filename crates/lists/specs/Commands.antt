-- A list of commands: one after the other, each after its count in two bytes, high byte first.
use Rattle.std.specs.Prelude.{ℕ, zero, suc, ◌+◌, List, [], ◌∷◌, Bool, leb, length, drop}
use Rattle.card.specs.Bytes.{word, part}

-- whether the first command is whole: its count is there, and as many bytes as it says
unfoldable pub whole : List ℕ → Bool
whole l = leb (2 + word l 0) (length l)

-- what stands after the first k commands
unfoldable pub rest : ℕ → List ℕ → List ℕ
rest zero l = l
rest (suc k) l = rest k (drop (2 + word l 0) l)

-- the first k commands, each with a room of 258 bytes
unfoldable pub listed : ℕ → List ℕ → List (List ℕ × ℕ)
listed zero l = []
listed (suc k) l = (part l 2 (word l 0), 258) ∷ listed k (drop (2 + word l 0) l)
