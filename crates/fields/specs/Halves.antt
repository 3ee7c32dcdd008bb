-- Digits in halves of bytes. A half is four bits: the low half is the remainder by 16, the high half the quotient.
use Rattle.std.specs.Prelude.{ℕ, ◌+◌, ◌*◌, ◌/◌, ◌%◌, ◌<◌, ◌≡◌, List, [], ◌∷◌, length, get_or}

-- the halves of each byte in turn, low half first
unfoldable pub halves : List ℕ → List ℕ
halves [] = []
halves (b ∷ bs) = b % 16 ∷ b / 16 ∷ halves bs

-- the bytes that have these halves
unfoldable pub joined : List ℕ → List ℕ
joined [] = []
joined (low ∷ []) = []
joined (low ∷ high ∷ hs) = (low + 16 * high) ∷ joined hs

-- Halves for so many bytes.
pub record Halved (hs bytes : List ℕ) : Type 0 where
  pub twice : length hs ≡ 2 * length bytes
  pub small : (i : ℕ) → get_or hs i 0 < 16
