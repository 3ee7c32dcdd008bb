-- What `run` promises: the definition's `run` of the commands that are played.
use Rattle.std.specs.Prelude.{ℕ, ◌+◌, ◌≡◌, List, Bool, ◌&&◌, not, leb, length}
use Rattle.card.specs.Answers.{laid}
use Rattle.card.specs.Bytes.{find}
use Rattle.card.specs.Play.{Outcome, run}
use Rattle.card.specs.declared.Session.{Session}
use Rattle.lists.specs.Answers.{answers, last_image, last_session}
use Rattle.lists.specs.Commands.{whole, rest, listed}
use Rattle.lists.specs.declared.Ran.{Ran}

-- the outcomes of the first k commands on an image and a session
abbrev pub outcomes : List ℕ → Session → List ℕ → ℕ → List Outcome
outcomes l s commands k = run l s (listed k commands)

-- whether the commands stop after the first k: the next is not whole, or fewer than 261 bytes are left for its answer, which is three
-- bytes and a response of up to 258
unfoldable pub stops : List ℕ → Session → List ℕ → ℕ → ℕ → Bool
stops l s commands room k = not (whole (rest k commands) && leb (length (answers (outcomes l s commands k)) + 261) room)

-- What is there after outcomes: the session, the image, how many bytes were written, and the answers, which past these bytes are as they
-- were.
pub record After (os : List Outcome) (l : List ℕ) (s : Session) (was : List ℕ) (r : Ran) (image is : List ℕ) : Type 0 where
  pub session : r.session ≡ last_session s os
  pub image' : image ≡ last_image l os
  pub written : r.written ≡ length (answers os)
  pub answers' : is ≡ laid was (answers os)

-- How n commands end on an image and a session: all n are played, or as many as come before they stop, and each outcome is the
-- definition's.
pub record Runs (l : List ℕ) (s : Session) (commands : List ℕ) (n : ℕ) (was : List ℕ) (r : Ran) (image is : List ℕ) : Type 0 where
  pub played : r.played ≡ find n (stops l s commands (length was))
  pub after : After (outcomes l s commands r.played) l s was r image is
