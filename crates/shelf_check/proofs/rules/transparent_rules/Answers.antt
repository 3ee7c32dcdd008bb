-- `shelf_check::rules::transparent_rules` meets its contract: one law, from what each call says.
use Rattle.shelf_check.proofs.OneEntry.{transparent_rules}
use Rattle.shelf_check.proofs.rules.transparent_rules.Goals as goal

pub returns : goal.returns
returns c = transparent_rules _ _ _ _ c.requires c.from.ensures c.from-2.ensures c.from-3.ensures
