-- `shelf_find::find_file` meets its contract: the invariant: what is left to search is what was to search.
use Prim.Native.Nat.{◌-◌}
use mathlib.Core.Path.{◌≡◌}
use Rattle.card.specs.Bytes.{first_from}
use Rattle.card.specs.Layout.{file}
use Rattle.card.specs.Select.{named}
use Rattle.shelf_find.proofs.find_file.Given as goal

abbrev pub invariant-loop-f : goal.invariant-loop-f
invariant-loop-f l = first_from (λ k. named l.here l.id (file l.head.shelf.bytes.now k)) l.head.shelf.index.files 0 ≡ first_from (λ k. named l.here l.id (file l.head.shelf.bytes.now k)) (l.head.shelf.index.files - l.f) l.f
