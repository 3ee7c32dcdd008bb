-- `acts_reading::seek_record` meets its contract.
use Rattle.card.specs.Seek.{seek_record}
use Rattle.card.specs.Play.{reads}
use Rattle.acts_stand.proofs.Carried.{none, granted}
use Rattle.acts_reading.proofs.Reading.{has_said}
use Rattle.acts_reading.proofs.seek_record.Goals as goal

pub returns-in_default : goal.returns-in_default
returns-in_default c = none reads (λ r e b. seek_record r e b c.args.s c.args.mode c.args.pattern.now) c.requires.ready
    c.in_default.is (rw c.from.ensures at c.refusal.ensures)

pub seek_record-requires : goal.seek_record-requires
seek_record-requires c = record { stands = granted c.stand-p.ensures; mode_bound = c.requires.mode_bound }

pub returns : goal.returns
returns c = let a = c.args in
    has_said c.stand-p.ensures (λ r e b. seek_record r e b a.s a.mode a.pattern.now) c.seek_record.ensures
