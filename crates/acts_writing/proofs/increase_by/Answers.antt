-- `acts_writing::increase_by` meets its contract.
use Rattle.card.specs.Increase.{increase_by}
use Rattle.card.specs.Play.{writes}
use Rattle.acts_stand.proofs.Carried.{none, granted}
use Rattle.acts_writing.proofs.Writing.{counted, has_written}
use Rattle.acts_writing.proofs.increase_by.Goals as goal

pub returns-in_default : goal.returns-in_default
returns-in_default c = none writes (λ r e b. increase_by r e b c.args.s c.args.added.now) c.requires.ready
    c.in_default.is (rw c.from.ensures at c.refusal.ensures)

pub increase_by-w-requires : goal.increase_by-w-requires
increase_by-w-requires c = record { stands = granted c.stand-p.ensures; counts = counted c.stand-p.ensures _ c.requires.added_len }

pub returns : goal.returns
returns c = let a = c.args in
    has_written c.stand-p.ensures (λ r e b. increase_by r e b a.s a.added.now) c.increase_by-w.ensures
