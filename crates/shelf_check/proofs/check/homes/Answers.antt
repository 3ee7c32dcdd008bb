-- `shelf_check::check::homes` meets its contract. The invariant: the table of the first d directories.
use Rattle.shelf_check.proofs.Homing.{homes_none}
use Rattle.shelf_check.proofs.check.homes.Goals as goal

pub loop-d-init : goal.loop-d-init
loop-d-init c = homes_none _
