-- A response lies in the room that it was laid in.
use Prim.Native.Nat.{ℕ, ◌≤◌}
use mathlib.Core.Path.{ap, ◌∙◌}
use mathlib.Core.List.{List}
use native.Mathlib.Omega.{arith}
use lib.ListN.{length, drop, length-append}
use Rattle.card.specs.Play.{Outcome}
use Rattle.player.specs.Ends.{Ends}
use Rattle.player.specs.declared.Played.{Played}

pub within : {o : Outcome} {r : Played} {image was is : List ℕ} → Ends o r image was is → r.count ≤ length is
within {o} {r} {image} {was} {is} e =
    let laid = ap length e.room ∙ length-append o.response (drop (length o.response) was) in
    let count = e.count in
    omega arith
