-- `console::play_all` meets its contract: what was tested at the start is so before each command.
use Rattle.std.proofs.Common.{◌≡◌, true}
use Rattle.acts.specs.Ready.{Ready}
use Rattle.console.proofs.play_all.Given as goal

abbrev pub invariant-loop-k : goal.invariant-loop-k
invariant-loop-k l = l.known ≡ true → Ready l.image l.session
