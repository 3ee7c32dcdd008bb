-- `laps::list::read_all` meets its contract: each command ends in the list.
use Rattle.std.proofs.Common.{◌≤◌, length}
use Rattle.laps.proofs.list.read_all.Given as goal

abbrev pub invariant-loop : goal.invariant-loop
invariant-loop l = l.end ≤ length l.list
