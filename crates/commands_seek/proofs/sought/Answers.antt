-- `commands_seek::sought` meets its contract.
use mathlib.Core.Path.{◌≡◌, ◌∙◌}
use native.Mathlib.Omega.{arith}
use Rattle.card.specs.Seek.{before}
use Rattle.commands_seek.proofs.Seeking.{from_first, from_after, from_before}
use Rattle.commands_seek.proofs.sought.Goals as goal

pub returns-in-0-clause-found : goal.returns-in-0-clause-found
returns-in-0-clause-found c = let a = c.args in
    c.search.ensures.found ∙ from_first a.b.now a.pattern.now a.m a.n a.mode a.p c.in-0.is

pub returns-in-2-clause-found : goal.returns-in-2-clause-found
returns-in-2-clause-found c = let a = c.args in
    c.search-in-2.ensures.found ∙ from_after a.b.now a.pattern.now a.m a.n a.mode a.p _ c.in-2.is c.unwrap_or-from.ensures

pub returns-in_default-clause-found : goal.returns-in_default-clause-found
returns-in_default-clause-found c = let a = c.args in
    let o : a.mode ≡ 0 → ⊥ = λ z. omega arith in
    let i : c.map_or-from.result ≡ before a.n a.p = grind arith in
    c.search-in_default.ensures.found ∙ from_before a.b.now a.pattern.now a.m a.n a.mode a.p _ o (λ z. omega arith) (λ z. omega arith) i
