-- `acts_reading::read_record` meets its contract.
use borrow.Author.Rules.{rules}
use Rattle.card.specs.Records.{read_record}
use Rattle.card.specs.Play.{reads}
use Rattle.acts_stand.proofs.Carried.{none, granted}
use Rattle.acts_reading.proofs.Reading.{has_read}
use Rattle.acts_reading.proofs.read_record.Goals as goal

pub returns-in_default : goal.returns-in_default
returns-in_default c = none reads (λ r e b. read_record r e b c.args.s c.args.number c.args.mode c.args.n) c.requires.ready
    c.in_default.is (rw c.from.ensures at c.refusal.ensures) c.args.room.now

pub read_record-requires : goal.read_record-requires
read_record-requires c = record { stands = granted c.stand-p.ensures; n_in_bounds = search rules }

pub returns : goal.returns
returns c = let a = c.args in
    has_read c.stand-p.ensures (λ r e b. read_record r e b a.s a.number a.mode a.n) c.read_record.ensures
