-- `codings_imsi::decode` meets its contract: it reads by the digits' count.
use Rattle.std.proofs.Common.{arith}
use Rattle.std.proofs.lemmas.Grind.{common_steps}
use Rattle.codings.specs.Answers.{judge}
use Rattle.codings.specs.ImsiByCount.{decode, digits_in}
use Rattle.codings.proofs.Laws.ImsiByCount.{decodes_by_count}
use Rattle.codings_imsi.proofs.decode.Goals as goal

pub returns-then-s-ne9 : goal.returns-then-s-ne9
unfolding judge decode
returns-then-s-ne9 c = rw (← decodes_by_count c.args.s.now) (grind (arith, common_steps))

pub returns-then-not-numbered : goal.returns-then-not-numbered
unfolding judge decode
returns-then-not-numbered c = rw (← decodes_by_count c.args.s.now) (grind (arith, common_steps))

pub returns : goal.returns
unfolding judge decode digits_in
returns c = rw (← decodes_by_count c.args.s.now) (grind (arith, common_steps))
