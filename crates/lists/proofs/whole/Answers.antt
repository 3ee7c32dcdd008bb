-- `lists::whole` meets its contract: by the two bytes of the count, where they are there.
use Rattle.lists.proofs.Places.{cut, counted}
use Rattle.lists.proofs.whole.Goals as goal

pub returns-then-left-lt2 : goal.returns-then-left-lt2
returns-then-left-lt2 c = cut c.args.commands.now c.args.at c.if-left-lt2.true

pub returns : goal.returns
returns c = let a = c.args in
    counted a.commands.now a.at _ _ c.from.ensures c.word.ensures
