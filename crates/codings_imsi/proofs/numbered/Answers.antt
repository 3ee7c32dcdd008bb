-- `codings_imsi::numbered` meets its contract.
use Rattle.std.proofs.Common.{arith}
use Rattle.std.proofs.lemmas.Grind.{common_steps}
use Rattle.codings_imsi.proofs.Laws.{tells}
use Rattle.codings_imsi.proofs.numbered.Goals as goal

pub returns-then-from-count : goal.returns-then-from-count
returns-then-from-count c = rw (tells c.args.s.now c.args.hs.now _ c.requires.long c.requires.halves c.lead-count.ensures.0)
    (grind (arith, common_steps))

pub returns-else-from-count : goal.returns-else-from-count
returns-else-from-count c = rw (tells c.args.s.now c.args.hs.now _ c.requires.long c.requires.halves c.lead-count.ensures.0)
    (grind (arith, common_steps))
