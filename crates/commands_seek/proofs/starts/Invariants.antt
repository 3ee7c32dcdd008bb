-- `commands_seek::starts` meets its contract.
use mathlib.Core.Path.{◌≡◌}
use lib.ListN.{length, drop}
use Rattle.card.specs.Bytes.{part, same}
use Rattle.commands_seek.proofs.starts.Given as goal

abbrev pub invariant-loop-j : goal.invariant-loop-j
invariant-loop-j l = same (part l.b l.at (length l.pattern)) l.pattern ≡ same (drop l.j (part l.b l.at (length l.pattern))) (drop l.j l.pattern)
