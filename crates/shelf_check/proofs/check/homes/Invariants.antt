-- `shelf_check::check::homes` meets its contract. The invariant: the table of the first d directories.
use Rattle.shelf_check.specs.Homes.{Homes}
use Rattle.shelf_check.proofs.check.homes.Given as goal

abbrev pub invariant-loop-d : goal.invariant-loop-d
invariant-loop-d l = Homes l.s.image.now l.d l.starts
