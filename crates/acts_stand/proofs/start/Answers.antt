-- `acts_stand::start` meets its contract. The invariant: the sum is that of the first g sizes.
use mathlib.Core.Path.{◌∙◌}
use native.Mathlib.Omega.{arith}
use Rattle.acts_stand.proofs.Standing.{no_sizes, next_size, all_sizes}
use Rattle.acts_stand.proofs.start.Goals as goal

pub loop-g-init : goal.loop-g-init
loop-g-init c = (no_sizes _, omega arith)

pub loop-g-preserved : goal.loop-g-preserved
loop-g-preserved c = let known = c.requires.indexed.is in
    (next_size _ _ known _ _ _ c.loop-g.invariant.0 (c.from-sum.ensures ∙ c.word.ensures), omega arith)

pub returns : goal.returns
returns c = let known = c.requires.indexed.is in
    all_sizes _ _ known _ _ _ (omega arith) (omega arith) c.loop-g.invariant.0
