-- `acts_codes::change` meets its contract: the entry was lent as a part and came back.
use Rattle.card.specs.Codes.{change}
use Rattle.acts_codes.proofs.Entering.{coded}
use Rattle.acts_codes.proofs.change.Goals as goal

pub returns : goal.returns
returns c = let a = c.args in
    coded c.requires.ready a.c c.requires.c_bound.0 (λ e n. change e a.s n a.given.now) _ _ _ _ c.entry.ensures c.change.auto.e c.change.ensures
