-- `fields::text::filled` meets its contract.
use Rattle.std.proofs.Common.{rules, tests, ◌∙◌, eqb}
use Rattle.std.proofs.lemmas.Iterator.{YieldsList-from_slice}
use Rattle.std.proofs.lemmas.Iterator.Search.{all_from_yields_List}
use Rattle.fields.proofs.Laws.Fields.{all_filled}
use Rattle.fields.proofs.text.filled.Goals as goal

pub returns : goal.returns
returns c = all_from_yields_List (λ x. eqb x c.args.filler) _ _ _ c.all.ensures.ran
    (YieldsList-from_slice c.args.s.now cc) (λ x b q k. search (rules, tests))
    ∙ all_filled c.args.filler c.args.s.now
