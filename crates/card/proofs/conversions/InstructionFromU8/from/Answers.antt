-- `Instruction::from` meets its contract: a number that the table does not have gives `Unknown`.
use Rattle.card.specs.Forms.{instruction_of, numbers}
use Rattle.card.proofs.Numbers.{missed}
use Rattle.card.proofs.conversions.InstructionFromU8.from.Goals as goal

pub returns-in_default : goal.returns-in_default
unfolding instruction_of
returns-in_default c = (missed (Unit {0}) numbers c.args.n c.in_default.in_default-own.rest).1
