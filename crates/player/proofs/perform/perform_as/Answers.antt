-- `player::perform::perform_as` meets its contract: each way out is the definition's.
use mathlib.Core.Path.{sym, ◌∙◌}
use native.Mathlib.Omega.{arith}
use lib.ListN.{length-drop}
use Rattle.card.specs.Refused.{word_of}
use Rattle.card.specs.Sessions.{dropped}
use Rattle.card.specs.declared.Answer.TheVariants.{WrongLength}
use Rattle.player.proofs.Endings.{says, room_for_word, declines}
use Rattle.player.proofs.Ways.{ends, wrong_class, wrong_form, wrong_length, performed}
use Rattle.player.proofs.perform.perform_as.Goals as goal

pub tell-requires : goal.tell-requires
tell-requires c = room_for_word c.args.s 0x6e00 c.silent.ensures _ c.requires.in_bounds.0

pub returns-then-command : goal.returns-then-command
returns-then-command c = let a = c.args in
    ends (wrong_class a.i a.image.now a.s a.command.now c.if-command.true)
    (says a.s 0x6e00 a.image.now c.silent.ensures c.tell.ensures c.requires.in_bounds.0)

pub tell-requires-in-Err : goal.tell-requires-in-Err
tell-requires-in-Err c = room_for_word (dropped c.args.s) c.from.result c.refusal.ensures _ c.requires.in_bounds.0

pub returns-in-Err : goal.returns-in-Err
returns-in-Err c = let a = c.args in
    ends (wrong_form a.i a.image.now a.s a.command.now c.if-command.false c.in-Err.refused (rw c.in-Err.is at c.formed.ensures))
    (says (dropped a.s) (word_of c.in-Err.refused) a.image.now (rw c.from.ensures at c.refusal.ensures) c.tell-in-Err.ensures c.requires.in_bounds.0)

pub returns-then-command-sent : goal.returns-then-command-sent
returns-then-command-sent c = let a = c.args in
    ends (wrong_length a.i a.image.now a.s a.command.now c.if-command.false (rw c.in_default.is at c.formed.ensures) _ c.sent.ensures c.if-command-sent.true)
    (declines WrongLength a.image.now a.room.now a.s c.decline.ensures)

pub returns : goal.returns
returns c = let a = c.args in
    ends (performed a.i a.image.now a.s a.command.now c.if-command.false (rw c.in_default.is at c.formed.ensures) _ c.sent.ensures c.if-command-sent.false) c.carry_out.ensures
