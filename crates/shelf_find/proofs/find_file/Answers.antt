-- `shelf_find::find_file` meets its contract: the invariant: what is left to search is what was to search.
use mathlib.Core.Path.{sym, ◌∙◌}
use Rattle.shelf.proofs.Loops.{search_more, search_found, search-end}
use Rattle.shelf_find.proofs.Found.{file-found}
use Rattle.shelf_find.proofs.find_file.Goals as goal

pub returns-then-named : goal.returns-then-named
returns-then-named c = (c.loop-f-test.true, file-found _ _ c.args.head.now.head.indexed.is _ _ _ (search_found _ _ _ c.loop-f-test.true c.loop-f.invariant (sym c.named.ensures ∙ c.if-named.true)))

pub loop-f-preserved : goal.loop-f-preserved
loop-f-preserved c = search_more _ _ _ c.loop-f-test.true c.loop-f.invariant (sym c.named.ensures ∙ c.if-named.false)

pub returns : goal.returns
returns c = sym (file-found _ _ c.args.head.now.head.indexed.is _ _ _ (search-end _ _ _ c.loop-f.auto.f-end c.loop-f-test.false c.loop-f.invariant))
