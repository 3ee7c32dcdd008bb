-- `shelf_check::fit::stands` meets its contract: a law for each way out.
use Prim.Native.Nat.{ℕ}
use mathlib.Core.Path.{ap, ◌∙◌}
use mathlib.Core.Bool.{◌&&◌}
use lib.Dec.{eqb}
use Rattle.shelf_check.proofs.Fitting.{stands_nowhere, stands_on, stands_off}
use Rattle.shelf_check.proofs.fit.stands.Goals as goal

pub returns-then-f-s : goal.returns-then-f-s
returns-then-f-s c = ap (λ (n : ℕ). eqb n c.args.d && c.pointed.result) c.from.ensures ∙ stands_on _ _ _ _ _ c.args.s.now.whole _ c.in-Some.is _ _ c.if-f-s.true c.file-e.ensures c.pointed.ensures

pub returns-else-f-s : goal.returns-else-f-s
returns-else-f-s c = stands_off _ _ _ _ _ c.args.s.now.whole _ c.in-Some.is c.if-f-s.false

pub returns-in_default : goal.returns-in_default
returns-in_default c = rw c.in_default.is (stands_nowhere _ _ _ _ c.is_none.ensures)
