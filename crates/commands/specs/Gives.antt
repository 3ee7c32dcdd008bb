-- How what the code gives stands to the definition's replies.
use Rattle.std.specs.Prelude.{ℕ, ◌≡◌, List, [], length}
use Rattle.card.specs.Answers as card
use Rattle.commands.specs.declared.answers.Reply.{Reply}

-- the code's reply: its data lie in the room, and it counts them
unfoldable pub brief : card.Reply → Reply
brief d = record { session = d.session; word = d.word; count = length d.bytes }

-- A reply whose data lie in the room, which is else as it was.
pub record Gives (d : card.Reply) (r : Reply) (was is : List ℕ) : Type 0 where
  pub reply : r ≡ brief d
  pub room : is ≡ card.laid was d.bytes

-- A reply of a word alone.
pub record Says (d : card.Reply) (r : Reply) : Type 0 where
  pub reply : r ≡ brief d
  pub silent : d.bytes ≡ []

-- A reply of a word alone, with the file's bytes and its top.
pub record Writes (w : card.Written) (r : Reply) (bytes : List ℕ) (place : ℕ) : Type 0 where
  pub reply : r ≡ brief w.given
  pub silent : w.given.bytes ≡ []
  pub contents : bytes ≡ w.contents
  pub top : place ≡ w.top

-- A reply of a word alone, with the file's status.
pub record Marks (m : card.Marked) (r : Reply) (status : ℕ) : Type 0 where
  pub reply : r ≡ brief m.given
  pub silent : m.given.bytes ≡ []
  pub mark : status ≡ m.status

-- A reply of a word alone, with the code's entry.
pub record Codes (k : card.Coded) (r : Reply) (bytes : List ℕ) : Type 0 where
  pub reply : r ≡ brief k.given
  pub silent : k.given.bytes ≡ []
  pub entry : bytes ≡ k.entry
