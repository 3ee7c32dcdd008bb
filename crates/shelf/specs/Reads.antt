-- What a reader hands on.
use Rattle.std.specs.Prelude.{ℕ, ◌+◌, ◌*◌, ◌<◌, ◌≤◌, ◌≡◌, List, length}
use Rattle.card.specs.Images.{SoundHead}
use Rattle.card.specs.Layout.{index, sizes}
use Rattle.card.specs.declared.Index.{Index}
use Rattle.card.specs.declared.Code.{Code}

-- an image's index, whose places are small
pub record Indexed (l : List ℕ) (i : Index) : Type 0 where
  pub is : i ≡ index l
  pub tree : i.tree < 3000000
  pub table : i.table < 3000000
  pub store : i.store < 3000000
  pub rooted : 4 ≤ i.tree
  pub tabled : 6 ≤ i.table
  pub counted : 8 ≤ i.store
  pub codes : i.codes < 65536
  pub directories : i.directories < 65536
  pub files : i.files < 65536

-- the sum of the sizes of the first f files, which is small
pub record Summed (l : List ℕ) (f n : ℕ) : Type 0 where
  pub is : n ≡ sizes l f
  pub small : n < 4294967296

-- a code's counters
pub record Counters (k : Code) : Type 0 where
  pub attempts : k.attempts ≤ 3
  pub unblocks : k.unblocks ≤ 10

-- the head of an image: its index, what bounds the counts, what its entries keep to, and that they are all there
pub record Head (h : List ℕ) (i : Index) : Type 0 where
  pub indexed : Indexed h i
  pub directories : i.directories ≤ 32
  pub files : i.files ≤ 200
  pub sound : SoundHead h
  pub whole : i.table + 14 * i.files ≤ length h
