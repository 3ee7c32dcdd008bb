-- `shelf_tell::members` meets its contract: the invariant: found counts the members among the first f files.
use Prim.Native.Nat.{◌≤◌}
use mathlib.Core.Path.{◌≡◌}
use Rattle.card.specs.Bytes.{how_many}
use Rattle.card.specs.Layout.{file}
use Rattle.card.specs.Select.{member}
use Rattle.shelf_tell.proofs.members.Given as goal

abbrev pub invariant-loop-f : goal.invariant-loop-f
invariant-loop-f l = (l.found ≤ l.f) × (l.found ≡ how_many l.f (λ k. member l.d (file l.head.shelf.bytes.now k)))
