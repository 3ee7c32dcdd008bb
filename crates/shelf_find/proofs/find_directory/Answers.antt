-- `shelf_find::find_directory` meets its contract: the invariant: what is left to search is what was to search.
use mathlib.Core.Path.{sym}
use Rattle.shelf.proofs.Loops.{search_more, search_found, search-end}
use Rattle.shelf_find.proofs.Found.{leads_at, directory_found}
use Rattle.shelf_find.proofs.find_directory.Goals as goal

pub returns-then-leads : goal.returns-then-leads
returns-then-leads c = (c.loop-d-test.true, directory_found _ _ c.args.head.now.head.indexed.is _ _ _ _ c.directory-up.ensures (search_found _ _ _ c.loop-d-test.true c.loop-d.invariant (leads_at _ _ _ _ _ _ _ _ c.directory.ensures c.leads.ensures c.if-leads.true)))

pub loop-d-preserved : goal.loop-d-preserved
loop-d-preserved c = search_more _ _ _ c.loop-d-test.true c.loop-d.invariant (leads_at _ _ _ _ _ _ _ _ c.directory.ensures c.leads.ensures c.if-leads.false)

pub returns : goal.returns
returns c = sym (directory_found _ _ c.args.head.now.head.indexed.is _ _ _ _ c.directory-up.ensures (search-end _ _ _ c.loop-d.auto.d-end c.loop-d-test.false c.loop-d.invariant))
