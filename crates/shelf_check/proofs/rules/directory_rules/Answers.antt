-- `shelf_check::rules::directory_rules` meets its contract: a law for each way out.
use native.Mathlib.Omega.{arith}
use Rattle.shelf_check.proofs.OneEntry.{master_rules, late_parent, directory-rules}
use Rattle.shelf_check.proofs.rules.directory_rules.Goals as goal

pub returns-then-d-eq0 : goal.returns-then-d-eq0
returns-then-d-eq0 c = master_rules _ _ _ c.if-d-eq0.true

pub returns-then-d-parent : goal.returns-then-d-parent
returns-then-d-parent c = late_parent _ _ _ c.if-d-eq0.false (omega arith)

pub returns : goal.returns
returns c = directory-rules _ _ _ _ _ c.if-d-eq0.false (omega arith) (rw c.from-parent.ensures at c.first_byte-up.ensures) c.below.ensures
