-- `shelf_tell::children` meets its contract: the invariant: found counts the children among the first c directories.
use Prim.Native.Nat.{◌≤◌}
use mathlib.Core.Path.{◌≡◌}
use Rattle.card.specs.Bytes.{how_many}
use Rattle.card.specs.Layout.{directory}
use Rattle.card.specs.Select.{child}
use Rattle.shelf_tell.proofs.children.Given as goal

abbrev pub invariant-loop-c : goal.invariant-loop-c
invariant-loop-c l = (l.found ≤ l.c) × (l.found ≡ how_many l.c (λ k. child l.d k (directory l.head.shelf.bytes.now k)))
