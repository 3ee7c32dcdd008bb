-- `shelf_check::fit::padded` meets its contract: a law for each way out.
use borrow.Author.Rules.{rules}
use Rattle.shelf_check.proofs.Fitting.{padded_none, padded_some, padded_long}
use Rattle.shelf_check.proofs.fit.padded.Goals as goal

pub returns-then-count-eq0 : goal.returns-then-count-eq0
returns-then-count-eq0 c = padded_none _ _ _ c.if-count-eq0.true c.eq.ensures

pub returns-in-None : goal.returns-in-None
returns-in-None c = padded_long _ _ (search rules) c.in-None.ensures.lookup.0

pub returns-in-Some : goal.returns-in-Some
returns-in-Some c = let part = c.in-Some.ensures.lookup.0 in padded_some _ _ _ _ (search rules) part.0 part.2 (search rules)
