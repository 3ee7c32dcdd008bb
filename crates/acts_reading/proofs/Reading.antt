-- A command that reads the current file's bytes, carried out: laws over any command of its kind.
use Prim.Native.Nat.{ℕ}
use mathlib.Core.List.{List}
use Rattle.card.specs.Answers as card
use Rattle.card.specs.Play.{reads}
use Rattle.card.specs.declared.Entry.{Entry}
use Rattle.card.specs.declared.Rights.{Rights}
use Rattle.card.specs.declared.Session.{Session}
use Rattle.commands.specs.Gives as given
use Rattle.commands.specs.declared.answers.Reply.{Reply}
use Rattle.acts.specs.Leaves.{Reads}
use Rattle.acts.proofs.Kept.{tells, quiet}
use Rattle.acts_stand.specs.Here.{Here}
use Rattle.acts_stand.specs.declared.Place.{Place}
use Rattle.acts_stand.proofs.Carried.{lent, carried}

module _ {l : List ℕ} {s : Session} {f : ℕ} {p : Place} (h : Here l s f p) where
  pub has_read : (command : Rights → Entry → List ℕ → card.Reply) {t : Reply} {was is : List ℕ}
      → given.Gives (command p.rights p.entry (lent h)) t was is
      → Reads command l s t was is
  has_read command {t} {was} {is} g = carried h reads command (tells h.spotted.ready _ t was is g)

  -- a word alone, for every room
  pub has_said : (command : Rights → Entry → List ℕ → card.Reply) {t : Reply}
      → given.Says (command p.rights p.entry (lent h)) t
      → (room : List ℕ) → Reads command l s t room room
  has_said command g room = has_read command (quiet g room)
