-- `acts_stand::stand` meets its contract.
use native.Mathlib.Omega.{arith}
use Rattle.acts_stand.proofs.Standing.{few, start_inside, entry_inside, here}
use Rattle.acts_stand.proofs.stand.Goals as goal

pub start-start-requires : goal.start-start-requires
start-start-requires c = let pre = c.requires in
    let known = c.image_index.ensures in
    let n = few pre.ready _ pre.current_value in
    let m = entry_inside pre.ready _ pre.current_value _ known.is in
    record { indexed = known; f_bound = (omega arith, omega arith) }

pub overflow_add-end : goal.overflow_add-end
overflow_add-end c = let pre = c.requires in
    let n = start_inside pre.ready _ pre.current_value in
    omega (arith, c.start-start.ensures)

pub returns : goal.returns
returns c = here c.spot-site.ensures _ _ c.start-start.ensures c.from.ensures
