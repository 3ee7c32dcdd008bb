-- `fields::halves::unpack` meets its contract: the loop writes the halves.
use Prim.Native.Nat.{◌*◌}
use Rattle.fields.specs.Halves.{halves}
use Rattle.fields.proofs.Laws.Writing.{Written}
use Rattle.fields.proofs.halves.unpack.Given as goal

abbrev pub invariant-loop-i : goal.invariant-loop-i
invariant-loop-i l = Written (halves l.s) l.initial.out l.out (2 * l.i)
