-- A command that writes the current file's bytes and its top, carried out: laws over any command of its kind, and what INCREASE takes for
-- granted.
use Prim.Native.Nat.{ℕ, ◌+◌}
use mathlib.Core.Path.{◌≡◌, refl, ap, ◌∙◌}
use mathlib.Core.List.{List}
use native.Mathlib.Omega.{arith}
use lib.ListN.{length, set}
use Rattle.card.specs.Answers as card
use Rattle.card.specs.Bytes.{splice}
use Rattle.card.specs.Layout.{file, file_entry}
use Rattle.card.specs.Play.{writes}
use Rattle.card.specs.Shelf.{file_rules}
use Rattle.card.specs.declared.Entry.{Entry}
use Rattle.card.specs.declared.Rights.{Rights}
use Rattle.card.specs.declared.Session.{Session}
use Rattle.card.proofs.Tests.{all_at}
use Rattle.commands.specs.Gives as given
use Rattle.commands.specs.declared.answers.Reply.{Reply}
use Rattle.commands_increase.specs.Counts.{Counts}
use Rattle.commands_increase.proofs.Counting.{counting}
use Rattle.acts.specs.Leaves.{Writes}
use Rattle.acts_stand.specs.Here.{Here}
use Rattle.acts_stand.specs.declared.Place.{Place}
use Rattle.acts_stand.proofs.Carried.{span, lent, entry_is, rules, carried}
use Rattle.acts_stand.proofs.Changed.{changed, unchanged}

module _ {l : List ℕ} {s : Session} {f : ℕ} {p : Place} (h : Here l s f p) where
  -- what INCREASE takes for granted
  pub counted : (added : List ℕ) → length added ≡ 3 → Counts p.entry added
  unfolding file_rules
  counted added three = counting p.entry added (all_at (file_rules l f p.entry) (rules h) 7) three

  -- the file's bytes and its top, in an image that is known by an equation
  wrote : (command : Rights → Entry → List ℕ → card.Written) {t : Reply} {b image : List ℕ} {top : ℕ}
      → given.Writes (command p.rights p.entry (lent h)) t b top
      → image ≡ set (splice l p.start (span h) b) (p.at + 12) top
      → Writes command l s t image
  wrote command {t} {b} {image} {top} g e room =
      let w : card.Written = command p.rights p.entry (lent h) in
      carried h writes command
      (record {
        reply = g.reply;
        image' =
            e
            ∙ ap (λ (y : List ℕ). set (splice l p.start (span h) y) (p.at + 12) top) g.contents
            ∙ ap (set (splice l p.start (span h) w.contents) (p.at + 12)) g.top
            ∙ changed h 12 (omega arith) w.contents w.top;
        room = rw g.silent;
      })

  -- the file's bytes, and then its top
  pub has_written : (command : Rights → Entry → List ℕ → card.Written) {t : Reply} {b : List ℕ} {top : ℕ}
      → given.Writes (command p.rights p.entry (lent h)) t b top
      → Writes command l s t (set (splice l p.start (span h) b) (p.at + 12) top)
  has_written command g = wrote command g refl

  -- the file's bytes alone, where its top stays
  pub has_filled : (command : Rights → Entry → List ℕ → card.Written) {t : Reply} {b : List ℕ}
      → given.Writes (command p.rights p.entry (lent h)) t b p.entry.top
      → Writes command l s t (splice l p.start (span h) b)
  unfolding file file_entry
  has_filled command {t} {b} g = wrote command g (unchanged h 12 (omega arith) b ∙ (simp (entry_is h)))
