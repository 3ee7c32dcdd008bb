-- `shelf_check::marks::meet` meets its contract: a raised bit is one key more.
use mathlib.Core.Path.{refl}
use Rattle.shelf_check.specs.Marks.{raised, marked}
use borrow.Author.Rules.{rules}
use Rattle.shelf_check.proofs.Words.{adds}
use Rattle.shelf_check.proofs.marks.meet.Goals as goal

pub returns : goal.returns
unfolding marked raised
returns c = record { value = refl; adds = adds _ _ c.requires (search rules) }
