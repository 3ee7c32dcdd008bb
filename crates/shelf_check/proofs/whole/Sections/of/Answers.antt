-- `shelf_check::whole::Sections::of` meets its contract: where a test fails this is no image.
use Rattle.shelf_check.proofs.Sections.{not_whole}
use Rattle.shelf_check.proofs.whole.Sections.of.Goals as goal

pub returns-else-whole : goal.returns-else-whole
returns-else-whole c = not_whole _ _ c.index-index.ensures c.if-whole.false
