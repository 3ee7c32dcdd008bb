-- `fields::text::lead` meets its contract.
use Rattle.std.proofs.Common.{rules, tests, ltb}
use Rattle.std.proofs.lemmas.Iterator.{YieldsList-from_slice}
use Rattle.std.proofs.lemmas.Iterator.Consumers.{count_from_yields_List}
use Rattle.std.proofs.lemmas.Iterator.Search.{YieldsList-from_take_while}
use Rattle.fields.proofs.Laws.Fields.{leading}
use Rattle.fields.proofs.text.lead.Goals as goal

pub returns : goal.returns
returns c = leading c.args.limit c.args.s.now _
    (count_from_yields_List c.take_while.result _ c.count.ensures.ran
    (YieldsList-from_take_while _ (λ x. ltb x c.args.limit) (YieldsList-from_slice c.args.s.now cc)
    c.take_while.ensures.closure c.take_while.ensures.done (λ x b q k. search (rules, tests))))
