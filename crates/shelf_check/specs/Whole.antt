-- What an image's counts and its length say, before any entry is looked at.
use Rattle.std.specs.Prelude.{ℕ, ◌<◌, ◌≤◌, ◌≡◌, List, length}
use Rattle.card.specs.declared.Index.{Index}
use Rattle.shelf.specs.Reads.{Indexed}

-- the counts are those of an image, and every section but the last is all there
pub record Whole (l : List ℕ) (i : Index) : Type 0 where
  pub indexed : Indexed l i
  pub codes : i.codes ≡ 2
  pub some : 0 < i.directories
  pub directories : i.directories ≤ 32
  pub files : i.files ≤ 200
  pub all : i.store ≤ length l
