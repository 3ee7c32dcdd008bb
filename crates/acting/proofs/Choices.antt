-- Laws of the choice of a command.
use Prim.Native.Nat.{ℕ}
use mathlib.Core.Path.{◌≡◌, refl, sym, subst}
use mathlib.Core.List.{List, []}
use Rattle.card.specs.Answers as card
use Rattle.card.specs.Binary.{read_binary}
use Rattle.card.specs.Layout.{head}
use Rattle.card.specs.Play.{act, opened}
use Rattle.card.specs.Select.{select}
use Rattle.card.specs.declared.Instruction.{Instruction}
use Rattle.card.specs.declared.Session.{Session}
use Rattle.commands.specs.declared.answers.Reply.{Reply}
use Rattle.commands.specs.Gives.{brief}
use Rattle.acts.specs.Leaves.{Leaves, Reads, Tells}
use Rattle.acts.specs.Ready.{Ready}
use Rattle.acts.proofs.Kept.{tells}

-- the instruction that was matched is the one that was given
pub chosen : (l : List ℕ) (s : Session) (i : Instruction) (p q n : ℕ) (d : List ℕ) (t : Reply) (image was is : List ℕ) (j : Instruction)
    → i ≡ j
    → Leaves (act j (head l) (opened l s.current) s p q n d) l s t image was is
    → Leaves (act i (head l) (opened l s.current) s p q n d) l s t image was is
chosen l s i p q n d t image was is j e =
    subst (λ (x : Instruction). Leaves (act x (head l) (opened l s.current) s p q n d) l s t image was is) (sym e)

module _ (l : List ℕ) (s : Session) (t : Reply) where
  -- a number that the code found, in place of the definition's
  pub selects : {k m : ℕ} (room : List ℕ) → k ≡ m → ((room : List ℕ) → Tells (select (head l) s k) l s t room room)
      → Tells (select (head l) s m) l s t room room
  selects room e h = subst (λ (x : ℕ). Tells (select (head l) s x) l s t room room) e (h room)

  pub as_many : {k m : ℕ} (at : ℕ) (was is : List ℕ) → k ≡ m → Reads (λ r e b. read_binary r e b s at k) l s t was is
      → Reads (λ r e b. read_binary r e b s at m) l s t was is
  as_many at was is e = subst (λ (x : ℕ). Reads (λ r e b. read_binary r e b s at x) l s t was is) e

  -- a word alone leaves image and room
  pub alone : (s' : Session) (w : ℕ) → Ready l s → t ≡ brief (card.reply [] w s') → (room : List ℕ)
      → Tells (card.reply [] w s') l s t room room
  alone s' w r e room = tells r (card.reply [] w s') t room room (record { reply = e; room = refl })
