-- `shelf_check::check::bytes_sound` meets its contract: a law for each way out.
use mathlib.Core.Path.{◌∙◌}
use Rattle.shelf_check.proofs.Sections.{bytes-sound, bytes_unsound}
use Rattle.shelf_check.proofs.check.bytes_sound.Goals as goal

pub returns-then-sum-le24576 : goal.returns-then-sum-le24576
returns-then-sum-le24576 c = bytes-sound _ _ c.args.s.now.whole _ _ c.requires (c.from-count.ensures ∙ c.word.ensures) c.if-sum-le24576.true

pub returns-else-sum-le24576 : goal.returns-else-sum-le24576
returns-else-sum-le24576 c = bytes_unsound _ _ c.args.s.now.whole _ c.requires c.if-sum-le24576.false
