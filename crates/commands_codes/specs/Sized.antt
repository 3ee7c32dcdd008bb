-- What a command on a code is given.
use Rattle.std.specs.Prelude.{ℕ, ◌≡◌, List, length}

-- An entry, and what a command sends.
pub record Sized (l d : List ℕ) (n : ℕ) : Type 0 where
  pub entry : length l ≡ 20
  pub sent : length d ≡ n
