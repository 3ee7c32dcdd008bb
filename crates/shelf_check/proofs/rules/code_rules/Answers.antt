-- `shelf_check::rules::code_rules` meets its contract: one law, from what each call says.
use Rattle.shelf_check.proofs.OneEntry.{code-rules}
use Rattle.shelf_check.proofs.rules.code_rules.Goals as goal

pub returns : goal.returns
returns c = code-rules _ _ _ _ _ _ c.requires c.from.ensures c.from-2.ensures c.from-3.ensures c.from-4.ensures
