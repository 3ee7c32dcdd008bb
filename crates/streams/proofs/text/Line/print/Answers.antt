-- A text that is printed stands at the end.
use Rattle.std.proofs.Common.{◌≤◌, length, arith}
use Rattle.std.proofs.lemmas.List.{length-take}
use Rattle.streams.proofs.Full.{take_printed}
use Rattle.streams.proofs.text.Line.print.Goals as goal

pub returns : goal.returns
returns g c =
    let fits : length c.args.self.now ≤ g.row.N = rw (← c.self.view_is) (omega (arith, length-take c.self.inside.len c.self.inside.bytes, c.self.invariant)) in
    take_printed c.write.result _ _ _ _ fits c.write.ensures.writes
