-- `shelf_check::whole::Sections::file` meets its contract: the entry is read at its place, which lies inside.
use Rattle.shelf_check.proofs.Sections.{file_inside, file_read}
use Rattle.shelf_check.proofs.whole.Sections.file.Goals as goal

pub file-requires : goal.file-requires
file-requires c = file_inside _ _ c.args.self.now.whole _ c.requires

pub returns : goal.returns
returns c = file_read _ _ c.args.self.now.whole _ _ c.file.ensures
