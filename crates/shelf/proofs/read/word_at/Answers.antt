-- `shelf::read::word_at` meets its contract: past the end each byte is 0.
use mathlib.Core.Path.{◌∙◌}
use native.Mathlib.Omega.{arith}
use Rattle.shelf.proofs.Past.{word_past}
use Rattle.shelf.proofs.read.word_at.Goals as goal

pub returns : goal.returns
returns c = word_past _ _ _ (omega arith) (c.from.ensures ∙ c.byte_at.ensures)
