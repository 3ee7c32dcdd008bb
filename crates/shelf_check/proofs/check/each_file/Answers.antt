-- `shelf_check::check::each_file` meets its contract. The invariant: what a pass over the first f files knows, and the sum is that of
-- their sizes, at most 65535 each.
use mathlib.Core.Path.{refl, ap, sym, ◌∙◌}
use native.Mathlib.Omega.{arith}
use Rattle.card.specs.declared.Entry.{Entry}
use Rattle.shelf_check.proofs.Keys.{pass_none, pass_end}
use Rattle.shelf_check.proofs.Sections.{few, sizes_none, sizes_more, tally_fails, tally_sum}
use Rattle.shelf_check.proofs.Files.{file_pass}
use Rattle.shelf_check.proofs.check.each_file.Goals as goal

pub loop-f-init : goal.loop-f-init
loop-f-init c = (pass_none _ _ refl, (omega arith, sizes_none _))

pub loop-f-preserved : goal.loop-f-preserved
loop-f-preserved c = let known = c.loop-f.invariant in
    let met = c.meet-met.ensures in
    let read = c.file-e.ensures in
    let own = c.file_rules-own.ensures _ c.requires in
    let pass = file_pass _ (few _ _ c.args.s.now.whole) (omega arith) read own c.file_key.ensures known.0 met.value met.adds in
    (pass, (omega arith, sizes_more _ _ _ _ known.1.1 (c.from-sum.ensures ∙ ap (λ (x : Entry). x.size) read)))

pub returns-then-sound : goal.returns-then-sound
returns-then-sound c = let l = c.loop-f.invariant in
    let end = c.loop-f.auto.f-end in
    tally_sum _ _ _ _ end c.loop-f-test.false (sym (pass_end _ _ _ _ end c.loop-f-test.false l.0) ∙ c.if-sound.true) l.1.1

pub returns-else-sound : goal.returns-else-sound
returns-else-sound c = tally_fails _ _ (sym (pass_end _ _ _ _ c.loop-f.auto.f-end c.loop-f-test.false c.loop-f.invariant.0) ∙ c.if-sound.false)
