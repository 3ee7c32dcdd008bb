-- `player::play` meets its contract: nothing is in the way, or the examination's answer is play's.
use mathlib.Core.Path.{sym, ◌∙◌}
use lib.ListN.{length}
use Rattle.player.proofs.Endings.{declines}
use Rattle.player.proofs.Ways.{ends, stopped, ready}
use Rattle.player.proofs.play.Goals as goal

pub play_ready-requires : goal.play_ready-requires
play_ready-requires c = ready (sym c.in-Ok.is ∙ c.examine.ensures)

pub returns-in-Err : goal.returns-in-Err
returns-in-Err c = let a = c.args in
    ends (stopped a.image.now a.session a.command.now (length a.room.now) _ (sym c.in-Err.is ∙ c.examine.ensures))
    (declines c.in-Err.answer a.image.now a.room.now a.session c.decline.ensures)
