-- Laws of what SELECT finds.
use Prim.Native.Nat.{ℕ}
use mathlib.Core.Path.{◌≡◌, sym, ap, ◌∙◌}
use mathlib.Core.List.{List}
use mathlib.Core.Bool.{Bool}
use Rattle.card.specs.Bytes.{first_from}
use Rattle.card.specs.Layout.{index, directory, file}
use Rattle.card.specs.Select.{leads, named, find_directory, find_file}
use Rattle.card.specs.declared.Index.{Index}
use Rattle.card.specs.declared.Directory.{Directory}

-- a test of an entry that was read, as one of the entry of its number
module _ (h : List ℕ) (n : ℕ) (r t : Bool) where
  pub leads_at : (here up id : ℕ) (e : Directory) → e ≡ directory h n → r ≡ leads here up id n e → r ≡ t → leads here up id n (directory h n) ≡ t
  leads_at here up id e is k m = ap (λ (x : Directory). leads here up id n x) (sym is) ∙ sym k ∙ m

module _ (h : List ℕ) (i : Index) (is : i ≡ index h) where
  pub directory_found : (here id r : ℕ) (e : Directory)
      → e ≡ directory h here
      → r ≡ first_from (λ d. leads here e.parent id d (directory h d)) i.directories 0
      → r ≡ find_directory h here id
  unfolding find_directory
  directory_found here id r e k m = m ∙ rw (k, is)

  pub file-found : (here id r : ℕ) → r ≡ first_from (λ f. named here id (file h f)) i.files 0 → r ≡ find_file h here id
  unfolding find_file
  file-found here id r m = m ∙ rw is
