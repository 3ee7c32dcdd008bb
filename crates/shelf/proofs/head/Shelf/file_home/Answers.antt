-- `shelf::head::Shelf::file_home` meets its contract: the byte stands where the index says.
use Prim.Native.Nat.{◌+◌, ◌*◌}
use mathlib.Core.Path.{ap}
use Rattle.card.specs.Bytes.{byte}
use Rattle.card.specs.Layout.{file_entry, file}
use Rattle.card.specs.declared.Index.{Index}
use Rattle.shelf.proofs.head.Shelf.file_home.Goals as goal

pub returns : goal.returns
unfolding file file_entry
returns c = ap (λ (x : Index). byte c.args.self.now.bytes.now (x.table + 14 * c.args.f + 2)) c.args.self.now.indexed.is
