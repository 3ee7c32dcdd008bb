-- `shelf::head::Shelf::file_identifier` meets its contract: the word stands where the index says.
use Prim.Native.Nat.{◌+◌, ◌*◌}
use mathlib.Core.Path.{ap, ◌∙◌}
use Rattle.card.specs.Bytes.{word}
use Rattle.card.specs.Layout.{file_entry, file}
use Rattle.card.specs.declared.Index.{Index}
use Rattle.shelf.proofs.head.Shelf.file_identifier.Goals as goal

pub returns : goal.returns
unfolding file file_entry
returns c = c.word.ensures ∙ ap (λ (x : Index). word c.args.self.now.bytes.now (x.table + 14 * c.args.f)) c.args.self.now.indexed.is
