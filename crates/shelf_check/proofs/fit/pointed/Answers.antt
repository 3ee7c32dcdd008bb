-- `shelf_check::fit::pointed` meets its contract: by the two cases.
use Rattle.shelf_check.proofs.Fitting.{pointed_nowhere, pointed_at}
use Rattle.shelf_check.proofs.fit.pointed.Goals as goal

pub returns-in-None : goal.returns-in-None
returns-in-None c = pointed_nowhere _ _ c.in-None.is

pub returns-in-Some : goal.returns-in-Some
returns-in-Some c = pointed_at _ _ _ _ c.in-Some.is c.records.ensures
