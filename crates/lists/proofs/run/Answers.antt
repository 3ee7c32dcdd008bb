-- `lists::run` meets its contract: `Sofar` holds before each turn, and says the promise where the loop ends.
use Prim.Native.Nat.{◌+◌, ◌-◌, ◌≤◌}
use mathlib.Core.Path.{refl, sym, ◌∙◌}
use native.Mathlib.Nat.{add-sub_cancel_left}
use native.Mathlib.Omega.{arith}
use lib.ListN.{length}
use Rattle.card.specs.Bytes.{word, part}
use Rattle.lists.proofs.Laying.{short, lent}
use Rattle.lists.proofs.Onward.{onward}
use Rattle.lists.proofs.Sofar.{start, goes, tests, stopped, finished}
use Rattle.lists.proofs.run.Goals as goal
use Rattle.lists.proofs.run.Goals.{Else-not-whole-until, After-step-done}

-- where a turn goes on, the command is whole and its answer has room
going : (c : Else-not-whole-until)
    → (c.loop-played.at + 2 + word c.args.commands.now c.loop-played.at ≤ length c.args.commands.now)
    × (c.loop-played.ran.written + 261 ≤ length c.loop-played.answers)
going c =
    goes c.args.commands.now c.loop-played.at _ _ _ c.whole.ensures c.loop-played.invariant.0.place c.if-not-whole-until.false-raw

-- what is told of a command fits its place
small : (c : After-step-done) → c.loop-played.ran.written + 261 ≤ length c.loop-played.answers → 3 + c.step-done.result.count ≤ 261
small c room =
    let is = c.loop-played.answers in
    let at = c.loop-played.ran.written in
    let told : 3 + c.step-done.result.count ≤ length (part is at (at + 261 - at)) = short c.step-done.ensures.told c.step-done.auto.answer in
    omega (arith, told, lent is at room)

pub loop-played-init : goal.loop-played-init
loop-played-init c = let a = c.args in
    (start a.image.now a.session a.commands.now a.n a.answers.now c.tested-known.result c.tested-known.ensures.ready, refl)

pub returns-then-not-whole-until : goal.returns-then-not-whole-until
returns-then-not-whole-until c = let f = c.loop-played.invariant.0 in
    stopped f (omega (arith, c.loop-played-test.true, c.loop-played.invariant.1)) (sym (tests f _ c.whole.ensures) ∙ c.if-not-whole-until.true-raw)

pub word-requires : goal.word-requires
word-requires c = omega (arith, (going (goal.at.word-requires c).Else-not-whole-until).0)

pub slice_bounds-step-end : goal.slice_bounds-step-end
slice_bounds-step-end c = omega (arith, (going (goal.at.slice_bounds-step-end c).Else-not-whole-until).0)

pub loop-played-preserved : goal.loop-played-preserved
loop-played-preserved c = let loop = c.loop-played in
    let call = c.step-done in
    let w = c.from in
    (rw (sym loop.invariant.1) (onward loop.invariant.0 w.result (w.ensures ∙ c.word.ensures) (add-sub_cancel_left _ _) (add-sub_cancel_left loop.ran.written 261) (going (goal.at.loop-played-preserved c).Else-not-whole-until) call.ensures.told call.auto.image call.auto.answer (omega (arith, c.loop-played-test.true, loop.invariant.1)) (sym (tests loop.invariant.0 _ c.whole.ensures) ∙ c.if-not-whole-until.false-raw) call.ensures.stays_ready), refl)

pub returns : goal.returns
returns c = finished c.loop-played.invariant.0 (omega (arith, c.loop-played-test.false, c.loop-played.invariant.1))
