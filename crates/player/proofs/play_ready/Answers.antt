-- `player::play_ready` meets its contract.
use lib.ListN.{length}
use Rattle.card.specs.declared.Answer.TheVariants.{RoomTooSmall, WrongLength}
use Rattle.player.proofs.Endings.{declines}
use Rattle.player.proofs.Ways.{ends, no_room, too_short, onward}
use Rattle.player.proofs.play_ready.Goals as goal

pub returns-then-room-lt258 : goal.returns-then-room-lt258
returns-then-room-lt258 c = let a = c.args in
    ends (no_room a.image.now a.session a.command.now (length a.room.now) c.requires c.if-room-lt258.true) (declines RoomTooSmall a.image.now a.room.now a.session c.decline.ensures)

pub returns-then-command-lt5 : goal.returns-then-command-lt5
returns-then-command-lt5 c = let a = c.args in
    ends (too_short a.image.now a.session a.command.now (length a.room.now) c.requires c.if-room-lt258.false c.if-command-lt5.true) (declines WrongLength a.image.now a.room.now a.session c.decline-then-command-lt5.ensures)

pub returns : goal.returns
returns c = let a = c.args in
    ends (onward a.image.now a.session a.command.now (length a.room.now) c.requires c.if-room-lt258.false c.if-command-lt5.false) c.perform.ensures
