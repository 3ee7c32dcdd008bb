-- `shelf_find::find_directory` meets its contract: the invariant: what is left to search is what was to search.
use Prim.Native.Nat.{◌-◌}
use mathlib.Core.Path.{◌≡◌}
use Rattle.card.specs.Bytes.{first_from}
use Rattle.card.specs.Layout.{directory}
use Rattle.card.specs.Select.{leads}
use Rattle.shelf_find.proofs.find_directory.Given as goal

abbrev pub invariant-loop-d : goal.invariant-loop-d
invariant-loop-d l = first_from (λ k. leads l.here l.up l.id k (directory l.head.shelf.bytes.now k)) l.head.shelf.index.directories 0 ≡ first_from (λ k. leads l.here l.up l.id k (directory l.head.shelf.bytes.now k)) (l.head.shelf.index.directories - l.d) l.d
