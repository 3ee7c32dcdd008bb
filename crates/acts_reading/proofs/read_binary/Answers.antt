-- `acts_reading::read_binary` meets its contract.
use borrow.Author.Rules.{rules}
use Rattle.card.specs.Binary.{read_binary}
use Rattle.card.specs.Play.{reads}
use Rattle.acts_stand.proofs.Carried.{none, full}
use Rattle.acts_reading.proofs.Reading.{has_read}
use Rattle.acts_reading.proofs.read_binary.Goals as goal

pub returns-in_default : goal.returns-in_default
returns-in_default c = none reads (λ r e b. read_binary r e b c.args.s c.args.at c.args.n) c.requires.ready
    c.in_default.is (rw c.from.ensures at c.refusal.ensures) c.args.room.now

pub read_binary-requires : goal.read_binary-requires
read_binary-requires c = (full c.stand-p.ensures, search rules)

pub returns : goal.returns
returns c = let a = c.args in
    has_read c.stand-p.ensures (λ r e b. read_binary r e b a.s a.at a.n) c.read_binary.ensures
