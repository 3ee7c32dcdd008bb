-- What a command on an image leaves: its reply, the image, and the room.
use Rattle.std.specs.Prelude.{ℕ, ◌≡◌, List}
use Rattle.card.specs.Answers as card
use Rattle.card.specs.Layout.{head}
use Rattle.card.specs.Play.{opened, afterwards, by_file, by_code, leaves, reads, marks, writes}
use Rattle.card.specs.declared.Entry.{Entry}
use Rattle.card.specs.declared.Rights.{Rights}
use Rattle.card.specs.declared.Session.{Session}
use Rattle.commands.specs.declared.answers.Reply.{Reply}
use Rattle.commands.specs.Gives.{brief}

-- An effect: the reply, the image afterwards, and the room with the reply's data.
pub record Leaves (e : card.Effect) (l : List ℕ) (s : Session) (t : Reply) (image was is : List ℕ) : Type 0 where
  pub reply : t ≡ brief e.given
  pub image' : image ≡ afterwards l s.current e
  pub room : is ≡ card.laid was e.given.bytes

-- a command that leaves the image: by its reply
abbrev pub Tells : card.Reply → List ℕ → Session → Reply → List ℕ → List ℕ → Type 0
Tells r l s t was is = Leaves (leaves (head l) (opened l s.current) r) l s t l was is

-- A command on the current file: one that reads it, one that writes its bytes, one that writes its mark.
abbrev pub Reads : (Rights → Entry → List ℕ → card.Reply) → List ℕ → Session → Reply → List ℕ → List ℕ → Type 0
Reads command l s t was is =
    Leaves (by_file reads (head l) (opened l s.current) s (λ r e. command r e (opened l s.current))) l s t l was is

abbrev pub Writes : (Rights → Entry → List ℕ → card.Written) → List ℕ → Session → Reply → List ℕ → Type 0
Writes command l s t image =
    (room : List ℕ)
    → Leaves (by_file writes (head l) (opened l s.current) s (λ r e. command r e (opened l s.current))) l s t image room room

abbrev pub Marks : (Rights → Entry → card.Marked) → List ℕ → Session → Reply → List ℕ → Type 0
Marks command l s t image = (room : List ℕ) → Leaves (by_file marks (head l) (opened l s.current) s command) l s t image room room

-- a command on code c
abbrev pub Codes : (List ℕ → ℕ → card.Coded) → List ℕ → Session → ℕ → Reply → List ℕ → Type 0
Codes command l s c t image = (room : List ℕ) → Leaves (by_code (head l) (opened l s.current) c command) l s t image room room
