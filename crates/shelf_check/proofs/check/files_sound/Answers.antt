-- `shelf_check::check::files_sound` meets its contract: a law for each way out.
use Rattle.shelf_check.proofs.Sections.{tally_not, tally_is, files_fail, files_then}
use Rattle.shelf_check.proofs.check.files_sound.Goals as goal

pub bytes_sound-requires : goal.bytes_sound-requires
bytes_sound-requires c = (tally_is _ _ _ c.in-Some.ensures).1

pub returns-in-None : goal.returns-in-None
returns-in-None c = files_fail _ _ c.args.s.now.whole (tally_not _ _ c.in-None.ensures)

pub returns-in-Some : goal.returns-in-Some
returns-in-Some c = files_then _ _ c.args.s.now.whole _ (tally_is _ _ _ c.in-Some.ensures).0 c.bytes_sound.ensures
