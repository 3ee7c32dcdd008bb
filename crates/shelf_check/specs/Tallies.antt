-- What one pass over the files finds.
use Rattle.std.specs.Prelude.{ℕ, List, true, false, Option, Some, None}
use Rattle.card.specs.Bytes.{every}
use Rattle.card.specs.Layout.{file, sizes}
use Rattle.card.specs.Shelf.{all, file_rules}

-- of the first n files: the sum of their sizes, where each keeps its rules
unfoldable pub tally : List ℕ → ℕ → Option ℕ
tally l n = elim (every n (λ f. all (file_rules l f (file l f)))) [ true ↦ Some (sizes l n) | false ↦ None ]
