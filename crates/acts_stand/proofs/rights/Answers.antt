-- `acts_stand::rights` meets its contract.
use Rattle.card.specs.Access.{rights}
use Rattle.card.specs.Layout.{code}
use Rattle.acts_stand.proofs.rights.Goals as goal

pub returns : goal.returns
unfolding rights code
returns c = simp (
  c.code-one.ensures,
  c.code-two.ensures,
)
