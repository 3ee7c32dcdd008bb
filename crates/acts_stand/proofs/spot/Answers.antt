-- `acts_stand::spot` meets its contract.
use native.Mathlib.Omega.{arith}
use Rattle.card.proofs.Images.{image}
use Rattle.card.proofs.Places.{code_inside}
use Rattle.acts_stand.proofs.Standing.{few, entry_inside, spotted}
use Rattle.acts_stand.proofs.spot.Goals as goal

pub overflow_mul-at : goal.overflow_mul-at
overflow_mul-at c = let pre = c.requires in let n = few pre.ready _ pre.current_value in omega arith

pub overflow_add-at : goal.overflow_add-at
overflow_add-at c = let pre = c.requires in let n = few pre.ready _ pre.current_value in omega arith

pub rights-rights-requires : goal.rights-rights-requires
rights-rights-requires c = code_inside _ (image _ c.requires.ready.image) 1 (omega arith)

pub file-entry-requires : goal.file-entry-requires
file-entry-requires c = let pre = c.requires in
    entry_inside pre.ready _ pre.current_value _ c.image_index-i.ensures.is

pub returns : goal.returns
returns c = let pre = c.requires in
    spotted pre.ready _ pre.current_value _ c.image_index-i.ensures.is _ _ c.rights-rights.ensures c.file-entry.ensures
