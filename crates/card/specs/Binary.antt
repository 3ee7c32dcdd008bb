-- Paper 01, READ BINARY and UPDATE BINARY: "a BINARY command is 94 02 exactly if offset plus length passes the size."
use Rattle.std.specs.Prelude.{ℕ, ◌+◌, List, [], ◌∷◌, length, ltb}
use Rattle.card.specs.Bytes.{part, splice}
use Rattle.card.specs.Layout.{transparent}
use Rattle.card.specs.Access.{shared}
use Rattle.card.specs.Sessions.{dropped}
use Rattle.card.specs.Answers.{Refusal, Reply, reply, refusal, Written, written, unless, ◌says◌}
use Rattle.card.specs.declared.Entry.{Entry}
use Rattle.card.specs.declared.Rights.{Rights}
use Rattle.card.specs.declared.Session.{Session}
use Rattle.card.specs.declared.Act.{Act}
use Rattle.card.specs.declared.Act.TheVariants.{Read, Update}

-- the refusals of n bytes from an offset on
unfoldable pub binary : Rights → Entry → Act → ℕ → ℕ → List Refusal
binary r e a at n = shared r e a (transparent e) (ltb e.size (at + n) says 0x9402 ∷ [])

unfoldable pub read_binary : Rights → Entry → List ℕ → Session → ℕ → ℕ → Reply
read_binary r e b s at n = unless (binary r e Read at n) (refusal s) (reply (part b at n) 0x9000 (dropped s))

unfoldable pub update_binary : Rights → Entry → List ℕ → Session → ℕ → List ℕ → Written
update_binary r e b s at new =
    unless (binary r e Update at (length new)) (λ w. written b e.top (refusal s w))
    (written (splice b at (length new) new) e.top (reply [] 0x9000 (dropped s)))
