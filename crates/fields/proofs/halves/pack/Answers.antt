-- `fields::halves::pack` meets its contract: the loop writes the bytes that the halves make.
use mathlib.Core.Path.{sym}
use borrow.Author.Rules.{rules}
use Rattle.fields.proofs.Laws.Halves.{joined_length, byte_at}
use Rattle.fields.proofs.Laws.Writing.{stored, finished}
use Rattle.fields.proofs.halves.pack.Goals as goal

pub loop-i-preserved : goal.loop-i-preserved
loop-i-preserved c = stored _ _ (joined_length _ _ c.requires.twice) _ _ _ (search rules)
    (sym (byte_at _ _ (search rules)))
    c.loop-i.invariant

pub returns : goal.returns
returns c = finished _ _ (joined_length _ _ c.requires.twice) _ _ (search rules) c.loop-i.invariant
