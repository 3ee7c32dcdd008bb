-- `shelf_check::fit::fits` meets its contract: one law, from what each call says.
use Rattle.shelf_check.proofs.Fitting.{by_parts}
use Rattle.shelf_check.proofs.fit.fits.Goals as goal

pub returns : goal.returns
returns c = by_parts _ _ _ _ _ c.args.sections.now.whole c.stands.ensures c.padded.ensures
