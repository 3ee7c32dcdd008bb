-- `commands_seek::search` meets its contract.
use Prim.Native.Nat.{◌-◌}
use mathlib.Core.Path.{◌≡◌}
use Rattle.card.specs.Seek.{matches}
use Rattle.card.specs.Bytes.{first_from, find}
use Rattle.commands_seek.specs.Along.{along}
use Rattle.commands_seek.proofs.search.Given as goal

abbrev pub invariant-loop-i : goal.invariant-loop-i
invariant-loop-i l =
    find l.turns (λ i. matches l.b l.m l.pattern (along l.up l.from i))
    ≡ first_from (λ i. matches l.b l.m l.pattern (along l.up l.from i)) (l.turns - l.i) l.i
