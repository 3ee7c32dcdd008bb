-- Paper 01, "Invalidation": INVALIDATE and REHABILITATE. The mark is written only where no refusal holds.
use Rattle.std.specs.Prelude.{ℕ, ◌+◌, ◌-◌, [], true}
use Rattle.card.specs.Access.{shared}
use Rattle.card.specs.Sessions.{dropped}
use Rattle.card.specs.Answers.{reply, refusal, Marked, marked, unless}
use Rattle.card.specs.declared.Entry.{Entry}
use Rattle.card.specs.declared.Rights.{Rights}
use Rattle.card.specs.declared.Session.{Session}
use Rattle.card.specs.declared.Act.{Act}
use Rattle.card.specs.declared.Act.TheVariants.{Invalidate, Rehabilitate}

-- an act on a file's mark, by what its status becomes
abbrev pub mark : Rights → Entry → Session → Act → ℕ → Marked
mark r e s a new =
    unless (shared r e a true []) (λ w. marked e.status (refusal s w)) (marked new (reply [] 0x9000 (dropped s)))

-- status b1 becomes 0, and 1
unfoldable pub invalidate : Rights → Entry → Session → Marked
invalidate r e s = mark r e s Invalidate (e.status - 1)

unfoldable pub rehabilitate : Rights → Entry → Session → Marked
rehabilitate r e s = mark r e s Rehabilitate (e.status + 1)
