-- `shelf_check::whole::Sections::directory` meets its contract: the entry is read at its place, which lies inside.
use Rattle.shelf_check.proofs.Sections.{directory_inside, directory_read}
use Rattle.shelf_check.proofs.whole.Sections.directory.Goals as goal

pub directory-requires : goal.directory-requires
directory-requires c = directory_inside _ _ c.args.self.now.whole _ c.requires

pub returns : goal.returns
returns c = directory_read _ _ c.args.self.now.whole _ _ c.directory.ensures
