-- `commands_marks::rehabilitate` meets its contract.
use Rattle.card.specs.Marks.{rehabilitate}
use Rattle.commands_marks.proofs.Marking.{raised}
use Rattle.commands_marks.proofs.rehabilitate.Goals as goal

pub returns : goal.returns
unfolding rehabilitate
returns c = c.mark.ensures _ (λ b. raised _ b)
