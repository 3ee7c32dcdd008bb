-- `lists::step` meets its contract: the response lies after the three bytes that are told before it.
use native.Mathlib.Omega.{arith}
use lib.ListN.{length-set}
use borrow.Author.Rules.{rules}
use Rattle.runs.proofs.Responses.{within}
use Rattle.lists.proofs.Laying.{told}
use Rattle.lists.proofs.step.Goals as goal

pub returns : goal.returns
returns c = let a = c.args in
    let call = c.play_on-played in
    record {
      told = told a.answer.now call.new.room c.requires.answer_len call.auto.room a.image.now a.session a.command.now _ c.from.ensures call.ensures.ends;
      stays_ready = call.ensures.ready;
    }
