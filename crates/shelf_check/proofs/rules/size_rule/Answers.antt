-- `shelf_check::rules::size_rule` meets its contract: one law, from what each call says.
use Rattle.shelf_check.proofs.OneEntry.{size_rule}
use Rattle.shelf_check.proofs.rules.size_rule.Goals as goal

pub returns : goal.returns
returns c = size_rule _ _ _ _ _ c.records-n.ensures c.from.ensures c.from-2.ensures c.from-3.ensures
