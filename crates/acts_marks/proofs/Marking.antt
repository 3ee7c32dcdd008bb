-- A command that writes the current file's mark, carried out: a law over any command of its kind.
use Prim.Native.Nat.{ℕ, ◌+◌}
use mathlib.Core.Path.{ap, ◌∙◌}
use mathlib.Core.List.{List}
use native.Mathlib.Omega.{arith}
use lib.ListN.{set}
use Rattle.card.specs.Answers as card
use Rattle.card.specs.Play.{marks}
use Rattle.card.specs.declared.Entry.{Entry}
use Rattle.card.specs.declared.Rights.{Rights}
use Rattle.card.specs.declared.Session.{Session}
use Rattle.commands.specs.Gives as given
use Rattle.commands.specs.declared.answers.Reply.{Reply}
use Rattle.acts.specs.Leaves.{Marks}
use Rattle.acts_stand.specs.Here.{Spotted}
use Rattle.acts_stand.specs.declared.Site.{Site}
use Rattle.acts_stand.proofs.Carried.{by_entry}
use Rattle.acts_stand.proofs.Changed.{entered}

module _ {l : List ℕ} {s : Session} {f : ℕ} {p : Site} (h : Spotted l s f p) where
  -- the file's mark
  pub has_marked : (command : Rights → Entry → card.Marked) {t : Reply} {status : ℕ}
      → given.Marks (command p.rights p.entry) t status
      → Marks command l s t (set l (p.at + 9) status)
  has_marked command {t} {status} g room =
      let m : card.Marked = command p.rights p.entry in
      by_entry h marks command
      (record {
        reply = g.reply;
        image' = ap (set l (p.at + 9)) g.mark ∙ entered h 9 (omega arith) m.status;
        room = rw g.silent;
      })
