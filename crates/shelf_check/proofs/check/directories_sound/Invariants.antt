-- `shelf_check::check::directories_sound` meets its contract. The invariant: what a pass over the first d directories knows.
use Rattle.shelf_check.proofs.Keys.{Pass}
use Rattle.shelf_check.proofs.Directories.{directory_keeps, directory_keys}
use Rattle.shelf_check.proofs.check.directories_sound.Given as goal

abbrev pub invariant-loop-d : goal.invariant-loop-d
invariant-loop-d l = Pass (directory_keeps l.s.image.now) (directory_keys l.s.image.now) l.d l.sound l.marks
