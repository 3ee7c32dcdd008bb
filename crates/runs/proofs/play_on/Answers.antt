-- `runs::play_on` meets its contract: by `play_ready` or by `play`, and what was tested is so again.
use mathlib.Core.Bool.{true≢false}
use mathlib.Core.Path.{sym, ◌∙◌}
use lib.ListN.{length}
use Rattle.runs.proofs.Again.{again}
use Rattle.runs.proofs.play_on.Goals as goal

pub returns-then-known : goal.returns-then-known
returns-then-known c = let a = c.args in
    let e = c.play_ready.ensures in
    let given = c.requires in
    record { ends = e; ready = λ k. again a.command.now (length a.room.now) (given k) e }

pub returns : goal.returns
returns c = record { ends = c.play.ensures; ready = λ k. absurd (true≢false (sym k ∙ c.if-known.false)) }
