-- `shelf_tell::children` meets its contract: the invariant: found counts the children among the first c directories.
use native.Mathlib.Omega.{arith}
use Rattle.shelf.proofs.Loops.{count_none, count_more, count_end}
use Rattle.shelf_tell.proofs.Told.{tested, child_at, children_are}
use Rattle.shelf_tell.proofs.children.Goals as goal

pub loop-c-init : goal.loop-c-init
loop-c-init c = (omega arith, count_none _)

pub loop-c-preserved : goal.loop-c-preserved
loop-c-preserved c = let t = tested _ _ c.from-found.ensures in (omega arith, count_more _ _ _ _ c.loop-c.invariant.1 (child_at _ _ _ _ _ _ c.directory.ensures c.child.ensures t.is))

pub returns : goal.returns
returns c = children_are _ _ c.args.head.now.head.indexed.is _ _ (count_end _ _ _ _ c.loop-c.auto.c-end c.loop-c-test.false c.loop-c.invariant.1)
