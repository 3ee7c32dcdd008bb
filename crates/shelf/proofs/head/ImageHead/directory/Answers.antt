-- `shelf::head::ImageHead::directory` meets its contract: the entry stands where the index says.
use Prim.Native.Nat.{◌+◌, ◌*◌}
use mathlib.Core.Path.{ap, ◌∙◌}
use Rattle.shelf.proofs.Heading.{directory_inside}
use Rattle.card.specs.Layout.{directory_entry, directory}
use Rattle.card.specs.declared.Index.{Index}
use Rattle.shelf.proofs.head.ImageHead.directory.Goals as goal

pub directory-requires : goal.directory-requires
directory-requires c = directory_inside _ _ c.args.self.now.head _ c.requires

pub returns : goal.returns
unfolding directory
returns c = c.directory.ensures ∙ ap (λ (x : Index). directory_entry c.args.self.now.shelf.bytes.now (x.tree + 8 * c.args.d)) c.args.self.now.head.indexed.is
