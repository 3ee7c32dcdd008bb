-- `shelf_check::check::directories_sound` meets its contract. The invariant: what a pass over the first d directories knows.
use mathlib.Core.Path.{refl}
use native.Mathlib.Omega.{arith}
use Rattle.shelf_check.proofs.Keys.{pass_none, pass_end}
use Rattle.shelf_check.proofs.Sections.{directories-sound}
use Rattle.shelf_check.proofs.Directories.{directory_pass}
use Rattle.shelf_check.proofs.check.directories_sound.Goals as goal

pub loop-d-init : goal.loop-d-init
loop-d-init c = pass_none _ _ refl

pub loop-d-preserved : goal.loop-d-preserved
loop-d-preserved c = let met = c.meet-met.ensures in
    directory_pass _ (omega arith) c.directory-e.ensures c.directory_rules-own.ensures c.directory_key.ensures c.loop-d.invariant met.value met.adds

pub returns : goal.returns
returns c = directories-sound _ _ c.args.s.now.whole _ (pass_end _ _ _ _ c.loop-d.auto.d-end c.loop-d-test.false c.loop-d.invariant)
