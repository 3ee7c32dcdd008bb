-- `shelf_check::rules::record_rules` meets its contract: one law, from what each call says.
use Rattle.shelf_check.proofs.OneEntry.{record_rules}
use Rattle.shelf_check.proofs.rules.record_rules.Goals as goal

pub returns : goal.returns
returns c = record_rules _ c.requires _ _ _ _ c.size_rule.ensures c.from-structure.ensures c.from-increase.ensures c.from.ensures
