-- `push_all` puts the bytes at the end: so far those before the place.
use Rattle.std.proofs.Common.{◌≡◌, ◌++◌, take}
use Rattle.streams.proofs.text.Line.push_all.Given as goal

abbrev pub invariant-loop-b : goal.invariant-loop-b
invariant-loop-b g l = l.self ≡ take g.row.N (l.initial.self ++ take l.b-index l.bytes)
