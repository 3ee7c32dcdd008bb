-- `acts_codes::enable` meets its contract: the entry was lent as a part and came back.
use native.Mathlib.Omega.{arith}
use Rattle.card.specs.Codes.{enable}
use Rattle.acts_codes.proofs.Entering.{coded}
use Rattle.acts_codes.proofs.enable.Goals as goal

pub returns : goal.returns
returns c = let a = c.args in
    coded c.requires.ready 0 (omega arith) (λ e n. enable e a.s n a.given.now) _ _ _ _ c.entry.ensures c.enable.auto.e c.enable.ensures
