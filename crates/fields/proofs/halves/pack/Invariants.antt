-- `fields::halves::pack` meets its contract: the loop writes the bytes that the halves make.
use Rattle.fields.specs.Halves.{joined}
use Rattle.fields.proofs.Laws.Writing.{Written}
use Rattle.fields.proofs.halves.pack.Given as goal

abbrev pub invariant-loop-i : goal.invariant-loop-i
invariant-loop-i l = Written (joined l.hs) l.initial.out l.out l.i
