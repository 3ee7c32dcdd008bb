-- `fields::halves::unpack` meets its contract: the loop writes the halves.
use Prim.Native.Nat.{ℕ, ◌+◌, ◌*◌}
use mathlib.Core.Path.{◌≡◌, ◌∙◌, sym}
use native.Mathlib.Omega.{arith}
use borrow.Author.Rules.{rules}
use Rattle.fields.proofs.Laws.Halves.{halves_length, low_at, high_at}
use Rattle.fields.proofs.Laws.Writing.{stored, finished}
use Rattle.fields.proofs.halves.unpack.Goals as goal

pub loop-i-preserved : goal.loop-i-preserved
loop-i-preserved c = let same = halves_length _ ∙ sym c.requires in
    rw (twice c.loop-i.i)
    (stored _ _ same _ _ _ (search rules) (c.high.ensures ∙ sym (high_at _ _))
    (stored _ _ same _ _ _ (search rules) (c.low.ensures ∙ sym (low_at _ _)) c.loop-i.invariant))
  where
    twice : (i : ℕ) → 2 * (i + 1) ≡ 2 * i + 1 + 1
    twice i = omega arith

pub returns : goal.returns
returns c = finished _ _ (halves_length _ ∙ sym c.requires) _ _ (search rules) c.loop-i.invariant
