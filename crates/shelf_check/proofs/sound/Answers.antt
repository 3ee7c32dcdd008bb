-- `shelf_check::sound` meets its contract: a law for each way out.
use Rattle.shelf_check.proofs.Sections.{no_codes, no_directories, image_if}
use mathlib.Core.Path.{sym, ◌∙◌}
use Rattle.shelf_check.proofs.sound.Goals as goal

pub returns-then-not-codes_sound : goal.returns-then-not-codes_sound
returns-then-not-codes_sound c = no_codes _ (sym c.codes_sound.ensures ∙ c.if-not-codes_sound.true)

pub returns-then-not-directories_sound : goal.returns-then-not-directories_sound
returns-then-not-directories_sound c = no_directories _ (sym c.codes_sound.ensures ∙ c.if-not-codes_sound.false) (sym c.directories_sound.ensures ∙ c.if-not-directories_sound.true)

pub returns : goal.returns
returns c = image_if _ _ (sym c.codes_sound.ensures ∙ c.if-not-codes_sound.false) (sym c.directories_sound.ensures ∙ c.if-not-directories_sound.false) c.files_sound.ensures
