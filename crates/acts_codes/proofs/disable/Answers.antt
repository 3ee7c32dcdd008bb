-- `acts_codes::disable` meets its contract: the entry was lent as a part and came back.
use native.Mathlib.Omega.{arith}
use Rattle.card.specs.Codes.{disable}
use Rattle.acts_codes.proofs.Entering.{coded}
use Rattle.acts_codes.proofs.disable.Goals as goal

pub returns : goal.returns
returns c = let a = c.args in
    coded c.requires.ready 0 (omega arith) (λ e n. disable e a.s n a.given.now) _ _ _ _ c.entry.ensures c.disable.auto.e c.disable.ensures
