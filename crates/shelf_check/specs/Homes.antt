-- What a file's identifier starts with, by the number of its directory.
use Rattle.std.specs.Prelude.{ℕ, ◌/◌, ◌<◌, ◌≤◌, ◌≡◌, List, length, get_or}
use Rattle.card.specs.Layout.{directory}
use Rattle.card.specs.Shelf.{within}

-- A table for the first n directories. 256 is no byte: nothing lies in any other.
pub record Homes (l : List ℕ) (n : ℕ) (homes : List ℕ) : Type 0 where
  pub size : length homes ≡ 32
  pub few : n ≤ 32
  pub at : (d : ℕ) → d < n → get_or homes d 0 ≡ within ((directory l d).identifier / 256)
  pub rest : (d : ℕ) → n ≤ d → d < 32 → get_or homes d 0 ≡ 256
