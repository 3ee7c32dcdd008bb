-- An effect that leaves the head and the current file's bytes leaves the image.
use Rattle.std.specs.Prelude.{ℕ, Option, Some, None}
use Prim.Native.Nat.{ℕ}
use mathlib.Core.Path.{◌≡◌, refl, sym, ap, ◌∙◌}
use mathlib.Core.List.{List}
use lib.ListN.{take}
use Rattle.card.specs.Answers as card
use Rattle.card.specs.Images.{Image}
use Rattle.card.specs.Layout.{index, file, start, head, contents}
use Rattle.card.specs.Play.{opened, headed, filled, afterwards}
use Rattle.card.specs.declared.Session.{Session}
use Rattle.card.proofs.Images.{image}
use Rattle.card.proofs.Places.{store_inside}
use Rattle.commands.specs.declared.answers.Reply.{Reply}
use Rattle.commands.specs.Gives as given
use Rattle.acts.specs.Leaves.{Tells}
use Rattle.acts.specs.Ready.{Ready}
use Rattle.acts.proofs.Lent.{front_back, part_back}

-- the current file's bytes, put back
pub unfilled : (l : List ℕ) (c : Option ℕ) → filled l c (opened l c) ≡ l
unfolding contents
unfilled l None = refl
unfilled l (Some f) = part_back l (start l f) (file l f).size

pub kept : (l : List ℕ) → Image l → (c : Option ℕ) (r : card.Reply) → l ≡ afterwards l c (card.effect (head l) (opened l c) r)
unfolding head
kept l m c r =
    sym (ap (λ (x : List ℕ). headed x (take (index l).store l)) (unfilled l c) ∙ front_back l (index l).store (store_inside l m))

-- a reply whose data lie in the room, on an image that is left
pub tells : {l : List ℕ} {s : Session} → Ready l s → (d : card.Reply) (t : Reply) (was is : List ℕ) → given.Gives d t was is
    → Tells d l s t was is
tells {l} {s} r d t was is g = record { reply = g.reply; image' = kept l (image l r.image) s.current d; room = g.room }

-- a word alone leaves every room
pub quiet : {d : card.Reply} {t : Reply} → given.Says d t → (room : List ℕ) → given.Gives d t room room
quiet g room = record { reply = g.reply; room = rw g.silent }
