-- `acts_writing::update_record` meets its contract.
use Rattle.card.specs.Records.{update_record}
use Rattle.card.specs.Play.{writes}
use Rattle.acts_stand.proofs.Carried.{none, granted}
use Rattle.acts_writing.proofs.Writing.{has_written}
use Rattle.acts_writing.proofs.update_record.Goals as goal

pub returns-in_default : goal.returns-in_default
returns-in_default c = none writes (λ r e b. update_record r e b c.args.s c.args.number c.args.mode c.args.new.now) c.requires
    c.in_default.is (rw c.from.ensures at c.refusal.ensures)

pub update_record-w-requires : goal.update_record-w-requires
update_record-w-requires c = granted c.stand-p.ensures

pub returns : goal.returns
returns c = let a = c.args in
    has_written c.stand-p.ensures (λ r e b. update_record r e b a.s a.number a.mode a.new.now) c.update_record-w.ensures
