-- What is told of outcomes, and what they leave.
use Rattle.std.specs.Prelude.{ℕ, ◌/◌, ◌%◌, ◌≡◌, List, [], ◌∷◌, ◌++◌, length}
use Rattle.card.specs.Answers.{laid}
use Rattle.card.specs.Play.{Outcome}
use Rattle.card.specs.declared.Session.{Session}
use Rattle.player.specs.declared.Played.{Played}

-- what is told of an outcome: the host's answer, the count of the response, high byte first, and the response
abbrev pub answer : Outcome → List ℕ
answer o = o.host ∷ length o.response / 256 ∷ length o.response % 256 ∷ o.response

-- what is told of outcomes, one after the other
unfoldable pub answers : List Outcome → List ℕ
answers [] = []
answers (o ∷ os) = answer o ++ answers os

-- the image after outcomes: the last one's, or the first image where there are none
unfoldable pub last_image : List ℕ → List Outcome → List ℕ
last_image l [] = l
last_image l (o ∷ os) = last_image o.image os

-- the session after outcomes, likewise
unfoldable pub last_session : Session → List Outcome → Session
last_session s [] = s
last_session s (o ∷ os) = last_session o.session os

-- One command: how long its response is, the session, the image, and its answer in the bytes lent for it.
pub record Told (o : Outcome) (r : Played) (image was is : List ℕ) : Type 0 where
  pub count : r.count ≡ length o.response
  pub session : r.session ≡ o.session
  pub image' : image ≡ o.image
  pub answer' : is ≡ laid was (answer o)
