-- Any two outcomes that a promise admits are one: the answer, the count, the session, and each byte of the image and the room.
use Rattle.std.specs.Prelude.{ℕ, ◌≡◌, List}
use Rattle.card.specs.Play.{Outcome}
use Rattle.card.specs.declared.Session.{Session}
use Rattle.player.specs.declared.Lent.{Lent}
use Rattle.player.specs.declared.Played.{Played}
use Rattle.player.specs.Ends.{Ends, played}

-- what `play`, `play_ready` and `perform` promise
abbrev pub OneOutcome : Type 0
OneOutcome =
    (o : Outcome) (r r' : Played) (was image image' room room' : List ℕ)
    → Ends o r image was room
    → Ends o r' image' was room'
    → (r ≡ r') × ((image ≡ image') × (room ≡ room'))

-- what `play_lent` promises
abbrev pub OneLent : Type 0
OneLent =
    (o : Outcome) (r r' : Lent) (s s' : Session) (was image image' room room' : List ℕ)
    → Ends o (played r s) image was room
    → Ends o (played r' s') image' was room'
    → (r ≡ r') × ((s ≡ s') × ((image ≡ image') × (room ≡ room')))
