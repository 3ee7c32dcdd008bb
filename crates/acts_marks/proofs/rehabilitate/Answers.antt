-- `acts_marks::rehabilitate` meets its contract.
use Rattle.card.specs.Marks.{rehabilitate}
use Rattle.card.specs.Play.{marks}
use Rattle.acts_stand.proofs.Carried.{none}
use Rattle.acts_marks.proofs.Marking.{has_marked}
use Rattle.acts_marks.proofs.rehabilitate.Goals as goal

pub returns-in_default : goal.returns-in_default
returns-in_default c = none marks (λ r e b. rehabilitate r e c.args.s) c.requires
    c.in_default.is (rw c.from.ensures at c.refusal.ensures)

pub returns : goal.returns
returns c = let a = c.args in
    has_marked c.spot-p.ensures (λ r e. rehabilitate r e a.s) c.rehabilitate-cleared.ensures
