-- `shelf::head::ImageHead::of` meets its contract: what stands before the files' bytes is all there, and its index is the image's.
use Rattle.card.specs.Layout.{head}
use Rattle.shelf.proofs.Heading.{head_of, head_length}
use Rattle.shelf.proofs.head.ImageHead.of.Goals as goal

pub slice_bounds-bytes-end : goal.slice_bounds-bytes-end
slice_bounds-bytes-end c = head_length c.args.image.now _ c.image_index-index.ensures.is c.requires

pub invariant_of-result : goal.invariant_of-result
invariant_of-result c = record { indexed = (head_of _ _ c.image_index-index.ensures.is c.requires).indexed }

pub invariant_of-result-2 : goal.invariant_of-result-2
invariant_of-result-2 c = record { head = head_of _ _ c.image_index-index.ensures.is c.requires }

pub returns : goal.returns
unfolding head
returns c = rw c.image_index-index.ensures.is
