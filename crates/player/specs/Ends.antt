-- How what the code gives stands to the definition's outcome.
use Rattle.std.specs.Prelude.{ℕ, ◌+◌, ◌/◌, ◌%◌, ◌≡◌, List, length, set}
use Rattle.card.specs.Answers.{number, laid}
use Rattle.card.specs.Play.{Outcome}
use Rattle.card.specs.declared.Answer.TheVariants.{Played as Done}
use Rattle.card.specs.declared.Session.{Session}
use Rattle.commands.specs.declared.answers.Reply.{Reply}
use Rattle.player.specs.declared.Lent.{Lent}
use Rattle.player.specs.declared.Played.{Played}

-- The host's answer, how long the response is, the session, the image, and the room, which past the response is as it was.
pub record Ends (o : Outcome) (r : Played) (image was is : List ℕ) : Type 0 where
  pub answer : number r.answer ≡ o.host
  pub count : r.count ≡ length o.response
  pub session : r.session ≡ o.session
  pub image' : image ≡ o.image
  pub room : is ≡ laid was o.response

-- the word, after the data that lie in the room
pub record Tells (t : Reply) (r : Played) (was is : List ℕ) : Type 0 where
  pub played : r ≡ record { answer = Done; count = t.count + 2; session = t.session }
  pub room : is ≡ set (set was t.count (t.word / 256)) (t.count + 1) (t.word % 256)

-- what a session that was lent ends with
abbrev pub played : Lent → Session → Played
played r s = record { answer = r.answer; count = r.count; session = s }
