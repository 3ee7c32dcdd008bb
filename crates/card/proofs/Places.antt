-- Where the entries and the files' bytes of a list stand, over its index: each entry in its own section, each file's bytes after the
-- head, one file's after another's. In an image all of them lie inside, and the last file's bytes end it.
use Prim.Native.Nat.{ℕ, suc, ◌+◌, ◌<◌, ◌≤◌}
use mathlib.Core.Path.{◌≡◌, sym}
use mathlib.Core.List.{List}
use mathlib.Core.Logic.{◌⊎◌, inl, inr}
use native.Mathlib.Omega.{arith}
use lib.ListN.{length}
use Rattle.card.specs.Layout.{index, code_at, directory_at, file_at, file, sizes, start}
use Rattle.card.specs.Images.{Image}
use Rattle.card.proofs.Tests.{Order, less, equal, more, order}
use Rattle.card.proofs.Frames.{placed, sizes_le}

module _ (l : List ℕ) where
  -- each entry ends before the count of the next section
  pub code_place : (c : ℕ) → c < (index l).codes → code_at c + 20 + 2 ≤ (index l).tree
  code_place c h = let p = placed l in omega arith

  pub directory_place : (d : ℕ) → d < (index l).directories → directory_at (index l) d + 8 + 2 ≤ (index l).table
  directory_place d h = let p = placed l in omega arith

  pub file_place : (f : ℕ) → f < (index l).files → file_at (index l) f + 14 + 2 ≤ (index l).store
  file_place f h = let p = placed l in omega arith

  -- the sections follow one another
  pub sections_place : (4 ≤ (index l).tree) × (((index l).tree + 2 ≤ (index l).table) × ((index l).table + 2 ≤ (index l).store))
  sections_place = let p = placed l in (omega arith, (omega arith, omega arith))

  -- a file's bytes start after the head, and where the file before it ends
  pub after_head : (f : ℕ) → (index l).store ≤ start l f
  unfolding start
  after_head f = omega arith

  pub start_first : start l 0 ≡ (index l).store
  unfolding start sizes
  start_first = omega arith

  pub start_next : (f : ℕ) → start l (suc f) ≡ start l f + (file l f).size
  unfolding start sizes
  start_next f = omega arith

  pub start_before : (f g : ℕ) → f < g → start l f + (file l f).size ≤ start l g
  unfolding start
  start_before f g h = let z = sizes_le l f g h in omega arith

  -- two files have no byte in common
  pub files_apart : (f g : ℕ) → (f ≡ g → ⊥)
      → (start l f + (file l f).size ≤ start l g) ⊎ (start l g + (file l g).size ≤ start l f)
  files_apart f g n = go (order f g)
    where
      go : Order f g → (start l f + (file l f).size ≤ start l g) ⊎ (start l g + (file l g).size ≤ start l f)
      go (less o) = inl (start_before f g o)
      go (equal o) = absurd (n o)
      go (more o) = inr (start_before g f o)

-- In an image. Of a file's bytes `inside` of Images says so.
module _ (l : List ℕ) (m : Image l) where
  pub store_inside : (index l).store ≤ length l
  store_inside = let w = m.whole in omega arith

  pub code_inside : (c : ℕ) → c < 2 → code_at c + 20 ≤ length l
  code_inside c h =
      let w = m.whole in
      let p = placed l in
      let n = m.codes in
      omega arith

  pub directory_inside : (d : ℕ) → d < (index l).directories → directory_at (index l) d + 8 ≤ length l
  directory_inside d h = let w = m.whole in let p = placed l in omega arith

  pub file_inside : (f : ℕ) → f < (index l).files → file_at (index l) f + 14 ≤ length l
  file_inside f h = let w = m.whole in let p = placed l in omega arith

  -- the sizes add up to what follows the head
  pub ends_whole : start l (index l).files ≡ length l
  unfolding start
  ends_whole = sym m.whole
