-- A command on the current file, carried out: laws over any command, and what the commands take for granted.
use Rattle.std.specs.Prelude.{Some, None}
use Prim.Native.Nat.{ℕ, ◌-◌}
use mathlib.Core.Path.{◌≡◌, refl, sym, ap, subst, ◌∙◌}
use mathlib.Core.List.{List}
use mathlib.Core.Bool.{true}
use native.Mathlib.Omega.{arith}
use native.Mathlib.Nat.{add-sub_cancel_left}
use lib.ListN.{length}
use Rattle.card.specs.Access.{rights}
use Rattle.card.specs.Answers as card
use Rattle.card.specs.Bytes.{part}
use Rattle.card.specs.Layout.{file, head, contents}
use Rattle.card.specs.Play.{opened, by_file}
use Rattle.card.specs.Shelf.{file_rules, all}
use Rattle.card.specs.declared.Entry.{Entry}
use Rattle.card.specs.declared.Rights.{Rights}
use Rattle.card.specs.declared.Session.{Session}
use Rattle.card.proofs.Heads.{file_head}
use Rattle.card.proofs.Images.{image, file-rules}
use Rattle.card.proofs.Parts.{length_part}
use Rattle.card.proofs.Tests.{all_at}
use Rattle.commands.specs.Gives.{brief}
use Rattle.commands.specs.declared.answers.Reply.{Reply}
use Rattle.commands_records.specs.Stands.{Stands}
use Rattle.commands_records.proofs.Granted.{standing}
use Rattle.acts.specs.Leaves.{Leaves}
use Rattle.acts.specs.Ready.{Ready}
use Rattle.acts.proofs.Kept.{tells}
use Rattle.acts_stand.specs.Here.{Spotted, Here, site}
use Rattle.acts_stand.specs.declared.Place.{Place}
use Rattle.acts_stand.specs.declared.Site.{Site}
use Rattle.acts_stand.proofs.Standing.{points_within}

module _ {A : Type 0} (leave : List ℕ → List ℕ → ℕ → A → card.Effect) where
  by_none : (command : Rights → Entry → A) (h b : List ℕ) (s : Session) → s.current ≡ None
      → card.effect h b (card.refusal s 0x9400) ≡ by_file leave h b s command
  by_none command h b s c = rw c

  by_some : (command : Rights → Entry → A) (h b : List ℕ) (s : Session) (f : ℕ) → s.current ≡ Some f
      → leave h b f (command (rights h s) (file h f)) ≡ by_file leave h b s command
  by_some command h b s f c = rw c

  -- what is left of a command that goes by the rights, the current file's entry and its bytes
  abbrev Done : (Rights → Entry → List ℕ → A) → List ℕ → Session → Reply → List ℕ → List ℕ → List ℕ → Type 0
  Done command l s t image was is =
      let b = opened l s.current in
      Leaves (by_file leave (head l) b s (λ r e. command r e b)) l s t image was is

  -- no current file: whatever the command, a refusal
  pub none : {l : List ℕ} {s : Session} (command : Rights → Entry → List ℕ → A) → Ready l s → s.current ≡ None
      → {t : Reply} → t ≡ brief (card.refusal s 0x9400) → (room : List ℕ) → Done command l s t l room room
  none {l} {s} command r c {t} e room =
      let b : List ℕ = opened l s.current in
      subst (λ (x : card.Effect). Leaves x l s t l room room) (by_none (λ r e. command r e b) (head l) b s c)
      (tells r (card.refusal s 0x9400) t room room (record { reply = e; room = refl }))

module _ {l : List ℕ} {s : Session} {f : ℕ} {p : Site} (h : Spotted l s f p) where
  -- what the command saw is what the definition hands it
  seen : {A : Type 0} (command : Rights → Entry → A) → command p.rights p.entry ≡ command (rights (head l) s) (file (head l) f)
  unfolding site
  seen command =
      ap (λ (p : Site). command p.rights p.entry) h.is ∙ ap (command (rights (head l) s)) (sym (file_head l f h.among))

  -- an effect on file f is the command's on the current file
  pub by_entry : {A : Type 0} (leave : List ℕ → List ℕ → ℕ → A → card.Effect) (command : Rights → Entry → A) {t : Reply}
      {image was is : List ℕ}
      → Leaves (leave (head l) (opened l s.current) f (command p.rights p.entry)) l s t image was is
      → Leaves (by_file leave (head l) (opened l s.current) s command) l s t image was is
  by_entry leave command {t} {image} {was} {is} g =
      let b : List ℕ = opened l s.current in
      subst (λ (x : card.Effect). Leaves x l s t image was is)
      (ap (leave (head l) b f) (seen command) ∙ by_some leave command (head l) b s f h.current)
      g

module _ {l : List ℕ} {s : Session} {f : ℕ} {p : Place} (h : Here l s f p) where
  -- the file's bytes, as the code lends them
  abbrev pub span : ℕ
  span = p.end - p.start

  abbrev pub lent : List ℕ
  lent = part l p.start span

  bytes : lent ≡ opened l s.current
  unfolding contents
  bytes = rw h.spotted.current (simp (h.starts, h.ends, add-sub_cancel_left))

  pub entry_is : p.entry ≡ file l f
  unfolding site
  entry_is = ap (λ (x : Site). x.entry) h.spotted.is

  pub full : length lent ≡ p.entry.size
  full =
      let n = h.inside in
      let m = h.filled in
      length_part l p.start span (omega arith) ∙ (simp (h.starts, h.ends, add-sub_cancel_left, entry_is))

  -- what the commands on a file take for granted
  pub rules : all (file_rules l f p.entry) ≡ true
  rules = rw entry_is (file-rules l f (file l f) ((image l h.spotted.ready.image).file f h.spotted.among))

  pub granted : Stands p.entry lent s.pointer
  unfolding file_rules
  granted =
      standing p.entry lent s.pointer full (all_at (file_rules l f p.entry) rules 6)
      (all_at (file_rules l f p.entry) rules 10)
      (rw entry_is (points_within h.spotted.ready f h.spotted.current))

  -- an effect on file f, of a command that goes by the file's bytes too
  pub carried : {A : Type 0} (leave : List ℕ → List ℕ → ℕ → A → card.Effect) (command : Rights → Entry → List ℕ → A) {t : Reply}
      {image was is : List ℕ}
      → Leaves (leave (head l) (opened l s.current) f (command p.rights p.entry lent)) l s t image was is
      → Done leave command l s t image was is
  carried leave command {t} {image} {was} {is} g =
      let b : List ℕ = opened l s.current in
      by_entry h.spotted leave (λ r e. command r e b)
      (subst (λ (x : List ℕ). Leaves (leave (head l) b f (command p.rights p.entry x)) l s t image was is) bytes g)
