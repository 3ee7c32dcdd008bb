-- `lists::run` meets its contract: `Sofar` holds before each turn, and says the promise where the loop ends.
use mathlib.Core.Path.{◌≡◌}
use Rattle.lists.proofs.Sofar.{Sofar}
use Rattle.lists.proofs.run.Given as goal

abbrev pub invariant-loop-played : goal.invariant-loop-played
invariant-loop-played l =
    Sofar l.initial.image l.initial.ran.session l.commands l.n l.initial.answers l.known l.image l.answers l.ran l.at
    × (l.ran.played ≡ l.played)
