-- `player::perform::carry_out` meets its contract: the data lie in the first 256 bytes of the room, and the word after them.
use mathlib.Core.Path.{sym, subst}
use mathlib.Core.List.{List}
use native.Mathlib.Omega.{arith}
use lib.Seq.{length-take-le}
use Rattle.card.specs.Answers.{Effect}
use Rattle.card.specs.Layout.{head}
use Rattle.card.specs.Play.{done, opened}
use Rattle.player.specs.Ends.{Ends}
use Rattle.player.proofs.Endings.{roomy, carried, tail, rightly, spelled}
use Rattle.player.proofs.perform.carry_out.Goals as goal

pub slice_bounds-act-end-3 : goal.slice_bounds-act-end-3
slice_bounds-act-end-3 c = sym (length-take-le 256 c.args.room.now (omega arith))

pub act-t-requires : goal.act-t-requires
act-t-requires c =
    record {
      ready = c.requires.ready;
      right = rightly c.from-p.ensures c.from-q.ensures c.from-n.ensures (tail c.args.command.now) c.requires.right;
      in_bounds = omega (arith, length-take-le 256 c.args.room.now (omega arith));
    }

pub tell-requires : goal.tell-requires
tell-requires c = roomy c.args.room.now c.act-t.ensures c.act-t.auto.room c.requires.in_bounds.0

pub returns : goal.returns
returns c = let a = c.args in
    let l : List _ = a.image.now in
    subst (λ (e : Effect). Ends (done l a.s.current e) c.tell.result c.act-t.new.image a.room.now c.tell.new.room)
    (spelled a.i (head l) (opened l a.s.current) a.s c.from-p.ensures c.from-q.ensures c.from-n.ensures (tail a.command.now))
    (carried a.room.now c.act-t.ensures c.act-t.auto.room c.requires.in_bounds.0 _ _ c.tell.ensures)
