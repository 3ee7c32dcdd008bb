-- Marks for keys below 8192: 256 words of 32 bits, key x at bit x % 32 of word x / 32.
use Rattle.std.specs.Prelude.{ℕ, ◌/◌, ◌%◌, ◌^◌, ◌<◌, ◌≡◌, List, Bool, ◌||◌, not, eqb, length, get_or}
use Rattle.card.specs.Bytes.{none}

-- bit n of a word is 1
unfoldable pub raised : ℕ → ℕ → Bool
raised w n = eqb (w / 2 ^ n % 2) 1

unfoldable pub marked : List ℕ → ℕ → Bool
marked m x = raised (get_or m (x / 32) 0) (x % 32)

-- one key is marked besides
pub record Adds (m : List ℕ) (key : ℕ) (m' : List ℕ) : Type 0 where
  pub size : length m' ≡ 256
  pub at : (x : ℕ) → x < 8192 → marked m' x ≡ (eqb key x || marked m x)

-- some number below n has key x
unfoldable pub seen : (ℕ → ℕ) → ℕ → ℕ → Bool
seen key n x = not (none n (λ k. eqb (key k) x))

-- exactly the keys of the numbers below n are marked
pub record Holds (m : List ℕ) (key : ℕ → ℕ) (n : ℕ) : Type 0 where
  pub size : length m ≡ 256
  pub at : (x : ℕ) → x < 8192 → marked m x ≡ seen key n x
