-- `acts_codes::unblock` meets its contract: the entry was lent as a part and came back.
use Rattle.card.specs.Codes.{unblock}
use Rattle.acts_codes.proofs.Entering.{coded}
use Rattle.acts_codes.proofs.unblock.Goals as goal

pub returns : goal.returns
returns c = let a = c.args in
    coded c.requires.ready a.c c.requires.c_bound.0 (λ e n. unblock e a.s n a.given.now) _ _ _ _ c.entry.ensures c.unblock.auto.e c.unblock.ensures
