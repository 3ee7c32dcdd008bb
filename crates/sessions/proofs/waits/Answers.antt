-- `sessions::waits` meets its contract.
use mathlib.Core.Path.{ap}
use mathlib.Core.List.{List, ◌++◌}
use Prim.Native.Nat.{ℕ}
use lib.ListN.{length, drop, replicate}
use Rattle.sessions.proofs.Waiting.{awaits}
use Rattle.sessions.proofs.waits.Goals as goal

pub returns : goal.returns
returns c = let a = c.args in
    awaits a.s a.r.now _ (ap (λ (w : List ℕ). w ++ drop (length a.r.now) (replicate 22 0)) c.copy_from_slice.ensures.after)
