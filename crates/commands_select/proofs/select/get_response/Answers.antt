-- `commands_select::select::get_response` meets its contract.
use Prim.Native.Nat.{◌≤◌}
use mathlib.Core.Path.{◌≡◌}
use native.Mathlib.Omega.{arith}
use lib.ListN.{length}
use Rattle.commands.proofs.Replies.{counted}
use Rattle.commands_select.proofs.Selecting.{asked, nothing_waits, asked_wrong, responds}
use borrow.Author.Rules.{rules}
use Rattle.commands_select.proofs.select.get_response.Goals as goal

pub returns-then-s-eq0 : goal.returns-then-s-eq0
returns-then-s-eq0 c = let a = c.args in
    nothing_waits a.s a.n _ a.room.now c.if-s-eq0.true (rw c.from.ensures at c.refusal.ensures)

pub returns-then-n-s : goal.returns-then-n-s
returns-then-n-s c = let a = c.args in
    asked_wrong a.s a.n _ a.room.now c.if-s-eq0.false c.if-n-s.true (rw c.from-then-n-s.ensures at c.silent.ensures)

pub lay-requires : goal.lay-requires
lay-requires c = let a = c.args in
    let h : a.n ≤ a.s.count = asked a.n a.s.count c.if-n-s.false in
    let l : length a.s.waiting ≡ 22 = search rules in
    (omega (arith, h, l), omega (arith, h))

pub returns : goal.returns
returns c = let a = c.args in
    let h : a.n ≤ a.s.count = asked a.n a.s.count c.if-n-s.false in
    let l : 22 ≡ length a.s.waiting = search rules in
    responds a.s a.n _ a.room.now _ c.if-s-eq0.false c.if-n-s.false (counted a.s.waiting _ _ 0 a.n (omega (arith, h, l)) c.dropped.ensures) c.lay.ensures
