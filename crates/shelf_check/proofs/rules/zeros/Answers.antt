-- `shelf_check::rules::zeros` meets its contract: one law, from what each call says.
use Rattle.shelf_check.proofs.OneEntry.{zero-rules}
use Rattle.shelf_check.proofs.rules.zeros.Goals as goal

pub returns : goal.returns
returns c = zero-rules _ _ _ _ _ c.from-status.ensures c.from.ensures c.from-2.ensures c.from-3.ensures
