-- `laps::play_list` meets its contract: what was tested at the start is so before each command, and each leaves fewer bytes.
use Rattle.std.proofs.Common.{◌≡◌, true, length}
use Rattle.acts.specs.Ready.{Ready}
use Rattle.laps.proofs.play_list.Given as goal

abbrev pub invariant-loop-command : goal.invariant-loop-command
invariant-loop-command l = l.known ≡ true → Ready l.image l.session

abbrev pub decreases-loop-command : goal.decreases-loop-command
decreases-loop-command l = length l.rest
