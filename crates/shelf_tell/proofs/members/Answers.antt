-- `shelf_tell::members` meets its contract: the invariant: found counts the members among the first f files.
use mathlib.Core.Path.{ap, ◌∙◌}
use native.Mathlib.Omega.{arith}
use Rattle.card.specs.Bytes.{bit}
use Rattle.shelf.proofs.Loops.{count_none, count_more, count_end}
use Rattle.shelf_tell.proofs.Told.{tested, members_are}
use Rattle.shelf_tell.proofs.members.Goals as goal

pub loop-f-init : goal.loop-f-init
loop-f-init c = (omega arith, count_none _)

pub loop-f-preserved : goal.loop-f-preserved
loop-f-preserved c = let t = tested _ _ c.from-found.ensures in (omega arith, count_more _ _ _ _ c.loop-f.invariant.1 (t.is ∙ ap bit c.member.ensures))

pub returns : goal.returns
returns c = members_are _ _ c.args.head.now.head.indexed.is _ _ (count_end _ _ _ _ c.loop-f.auto.f-end c.loop-f-test.false c.loop-f.invariant.1)
