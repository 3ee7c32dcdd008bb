-- `commands_select::select::tell_status` meets its contract.
use mathlib.Core.Path.{◌≡◌}
use native.Mathlib.Omega.{arith}
use lib.ListN.{length}
use Rattle.commands.proofs.Replies.{counted}
use Rattle.commands_select.proofs.Selecting.{status}
use borrow.Author.Rules.{rules}
use Rattle.commands_select.proofs.select.tell_status.Goals as goal

pub returns : goal.returns
returns c = let a = c.args in
    let l : length a.told ≡ 26 = search rules in
    status a.s a.n a.told a.room.now _ _ (counted a.told _ _ 4 a.n (omega (arith, l)) c.dropped.ensures) c.lay.ensures
