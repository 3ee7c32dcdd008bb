-- `shelf_check::check::each_file` meets its contract. The invariant: what a pass over the first f files knows, and the sum is that of
-- their sizes, at most 65535 each.
use Prim.Native.Nat.{◌≤◌, ◌*◌}
use mathlib.Core.Path.{◌≡◌}
use Rattle.card.specs.Layout.{sizes}
use Rattle.shelf_check.proofs.Keys.{Pass}
use Rattle.shelf_check.proofs.Files.{file_keeps, file_keys}
use Rattle.shelf_check.proofs.check.each_file.Given as goal

abbrev pub invariant-loop-f : goal.invariant-loop-f
invariant-loop-f l = Pass (file_keeps l.s.image.now) (file_keys l.s.image.now) l.f l.sound l.marks × ((l.sum ≤ 65535 * l.f) × (l.sum ≡ sizes l.s.image.now l.f))
