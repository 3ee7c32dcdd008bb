-- `commands_seek::starts` meets its contract.
use mathlib.Core.Path.{◌∙◌, sym}
use native.Mathlib.Omega.{arith}
use Rattle.commands_seek.proofs.Seeking.{fitting, same_on, same_miss, same_end}
use Rattle.commands_seek.proofs.starts.Goals as goal

pub returns-then-b-at : goal.returns-then-b-at
returns-then-b-at c = let a = c.args in
    let h = fitting _ _ _ _ c.requires.within.0 c.requires.within.1 c.requires.narrow in
    sym (c.loop-j.invariant ∙ same_miss a.b.now a.pattern.now _ h c.loop-j.j c.loop-j-test.true c.if-b-at.true)

pub loop-j-preserved : goal.loop-j-preserved
loop-j-preserved c = let a = c.args in
    let h = fitting _ _ _ _ c.requires.within.0 c.requires.within.1 c.requires.narrow in
    c.loop-j.invariant ∙ same_on a.b.now a.pattern.now _ h c.loop-j.j c.loop-j-test.true c.if-b-at.false

pub returns : goal.returns
returns c = let a = c.args in
    let h = fitting _ _ _ _ c.requires.within.0 c.requires.within.1 c.requires.narrow in
    sym (c.loop-j.invariant ∙ same_end a.b.now a.pattern.now _ h c.loop-j.j (omega arith))
