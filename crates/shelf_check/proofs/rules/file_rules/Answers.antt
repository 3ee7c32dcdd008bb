-- `shelf_check::rules::file_rules` meets its contract: one law, from what each call says.
use Rattle.shelf_check.proofs.Homing.{own-file}
use borrow.Author.Rules.{rules}
use Rattle.shelf_check.proofs.rules.file_rules.Goals as goal

pub returns : goal.returns
returns c = λ l h. rw c.from-home.ensures (own-file l _ h _ (search rules) _ _ c.zeros.ensures c.structure_rules-own.ensures)
