-- `acts_writing::update_binary` meets its contract.
use Rattle.card.specs.Binary.{update_binary}
use Rattle.card.specs.Play.{writes}
use Rattle.acts_stand.proofs.Carried.{none, full}
use Rattle.acts_writing.proofs.Writing.{has_filled}
use Rattle.acts_writing.proofs.update_binary.Goals as goal

pub returns-in_default : goal.returns-in_default
returns-in_default c = none writes (λ r e b. update_binary r e b c.args.s c.args.at c.args.new.now) c.requires
    c.in_default.is (rw c.from.ensures at c.refusal.ensures)

pub update_binary-requires : goal.update_binary-requires
update_binary-requires c = full c.stand-p.ensures

pub returns : goal.returns
returns c = let a = c.args in
    has_filled c.stand-p.ensures (λ r e b. update_binary r e b a.s a.at a.new.now) c.update_binary.ensures
