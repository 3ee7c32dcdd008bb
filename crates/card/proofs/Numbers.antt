-- A number that the table of instructions does not have.
use Prim.Native.Nat.{ℕ}
use mathlib.Core.Path.{◌≡◌, refl, ◌∙◌}
use mathlib.Core.List.{List, [], ◌∷◌}
use lib.Dec.{eqb}
use borrow.Author.Tests.{ne_eqb}
use Rattle.card.specs.Forms.{among}
use Rattle.card.specs.declared.Instruction.{Instruction}
use Rattle.card.specs.declared.Instruction.TheVariants.{Unknown}
use Rattle.card.proofs.Tests.{otherwise}

-- no number of the table, told from the first to the last after what was told before, as a `match` tells it
abbrev pub Past : Type 0 → List (ℕ × Instruction) → ℕ → Type 0
Past before [] n = before
Past before (k ∷ ks) n = Past (before × (n ≡ k.0 → ⊥)) ks n

pub missed : (before : Type 0) (ks : List (ℕ × Instruction)) (n : ℕ) → Past before ks n → before × (Unknown ≡ among ks n)
missed before [] n h = (h, refl)
missed before (k ∷ ks) n h =
    let m = missed (before × (n ≡ k.0 → ⊥)) ks n h in
    (m.0.0, m.1 ∙ otherwise (eqb n k.0) k.1 (among ks n) (ne_eqb _ _ m.0.1))
