-- `shelf::read::image_index` meets its contract: an image has two codes, so each count stands where it is read.
use mathlib.Core.Path.{refl, ◌∙◌}
use native.Mathlib.Omega.{arith}
use Rattle.shelf.proofs.Heading.{counts_inside, image_indexed}
use Rattle.shelf.proofs.read.image_index.Goals as goal

pub word-requires : goal.word-requires
word-requires c = omega (arith, counts_inside _ c.requires _ refl)

pub word-requires-2 : goal.word-requires-2
word-requires-2 c = omega (arith, counts_inside _ c.requires _ (c.from-d.ensures ∙ c.word.ensures))

pub returns : goal.returns
returns c = image_indexed _ c.requires _ _ (c.from-d.ensures ∙ c.word.ensures) (c.from-f.ensures ∙ c.word-2.ensures)
