-- `commands_select::select::selected` meets its contract.
use Prim.Native.Nat.{◌+◌}
use mathlib.Core.List.{[]}
use mathlib.Core.Path.{ap, ◌∙◌}
use Rattle.card.specs.Answers.{reply}
use Rattle.card.specs.Sessions.{waits}
use Rattle.card.specs.declared.Session.{Session}
use Rattle.commands.specs.Gives.{brief}
use Rattle.commands_select.proofs.select.selected.Goals as goal

pub returns : goal.returns
returns c l k q = let n = c.args.n in
    (rw c.low.ensures.0 at c.silent.ensures) ∙ ap (λ (s : Session). brief (reply [] (0x9f00 + n) s)) (c.waits_padded.ensures l k q ∙ ap (waits l) c.enters.ensures)
