-- `acts_codes::verify` meets its contract: the entry was lent as a part and came back.
use Rattle.card.specs.Codes.{verify}
use Rattle.acts_codes.proofs.Entering.{coded}
use Rattle.acts_codes.proofs.verify.Goals as goal

pub returns : goal.returns
returns c = let a = c.args in
    coded c.requires.ready a.c c.requires.c_bound.0 (λ e n. verify e a.s n a.given.now) _ _ _ _ c.entry.ensures c.verify.auto.e c.verify.ensures
