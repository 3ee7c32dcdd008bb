-- `acts_stand::start` meets its contract. The invariant: the sum is that of the first g sizes.
use Prim.Native.Nat.{◌*◌, ◌≤◌}
use mathlib.Core.Path.{◌≡◌}
use Rattle.card.specs.Layout.{sizes}
use Rattle.acts_stand.proofs.start.Given as goal

abbrev pub invariant-loop-g : goal.invariant-loop-g
invariant-loop-g l = (l.sum ≡ sizes l.l l.g) × (l.sum ≤ 65536 * l.g)
