-- `player::perform::perform` meets its contract.
use Rattle.player.proofs.Ways.{ends, by_name}
use Rattle.player.proofs.perform.perform.Goals as goal

pub returns : goal.returns
returns c = let a = c.args in
    ends (by_name a.image.now a.s a.command.now _ c.from.ensures) c.perform_as.ensures
