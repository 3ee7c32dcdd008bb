-- `commands_marks::invalidate` meets its contract.
use Rattle.std.proofs.Common.{arith}
use Rattle.card.specs.Marks.{invalidate}
use Rattle.commands_marks.proofs.Marking.{cleared}
use Rattle.commands_marks.proofs.invalidate.Goals as goal

pub returns : goal.returns
unfolding invalidate
returns c = c.mark.ensures _ (λ b. cleared _ (omega arith) b)
