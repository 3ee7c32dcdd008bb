-- `shelf::read::index` meets its contract: each count is the word that the definition reads, and so small that no place wraps.
use native.Mathlib.Omega.{arith}
use Rattle.card.specs.Layout.{index}
use Rattle.shelf.proofs.read.index.Goals as goal

pub returns : goal.returns
unfolding index
returns c = record { is = cc; tree = omega arith; table = omega arith; store = omega arith; rooted = omega arith; tabled = omega arith; counted = omega arith; codes = omega arith; directories = omega arith; files = omega arith }
