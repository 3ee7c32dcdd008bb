-- The ways out of `play`: what holds of the host's own answers, of the refusals before the command, and of the command, holds of it.
use Prim.Native.Nat.{ℕ}
use mathlib.Core.Path.{◌≡◌}
use mathlib.Core.List.{List, []}
use mathlib.Core.Bool.{true, false}
use lib.Dec.{eqb, ltb}
use lib.ListN.{length, drop}
use borrow.Author.Tests.{eqb-true}
use Rattle.card.specs.Bytes.{byte}
use Rattle.card.specs.Layout.{head}
use Rattle.card.specs.Shelf.{is_image}
use Rattle.card.specs.Sessions.{fits}
use Rattle.card.specs.Answers.{reply, refusal, Effect, first}
use Rattle.card.specs.Forms.{instruction_of, formed, sent}
use Rattle.card.specs.Play.{Outcome, declined, told, done, act, opened, perform_as, perform, play}
use Rattle.card.specs.declared.Answer.TheVariants.{NotAnImage, DoesNotFit, RoomTooSmall, WrongLength}
use Rattle.card.specs.declared.Session.{Session}
use Rattle.card.proofs.Refusals.{choice}

-- the effect of the command that some bytes are
abbrev pub effect_of : List ℕ → Session → List ℕ → Effect
effect_of l s c =
    act (instruction_of (byte c 1)) (head l) (opened l s.current) s (byte c 2) (byte c 3) (byte c 4) (drop 5 c)

-- they have the form of their instruction
pub record Formed (c : List ℕ) : Type 0 where
  pub form : first (formed (instruction_of (byte c 1)) (byte c 2) (byte c 3) (byte c 4)) ≡ 0
  pub bytes : length (drop 5 c) ≡ sent (instruction_of (byte c 1)) (byte c 4)

pub by_play : (P : Outcome → Type 0) (l : List ℕ) (s : Session) (c : List ℕ) (room : ℕ)
    → (is_image l ≡ false → P (declined NotAnImage l s))
    → (fits (head l) s ≡ false → P (declined DoesNotFit l s))
    → P (declined RoomTooSmall l s)
    → P (declined WrongLength l s)
    → P (told l (reply [] 0x6e00 s))
    → ((w : ℕ) → P (told l (refusal s w)))
    → (is_image l ≡ true → fits (head l) s ≡ true → Formed c → P (done l s.current (effect_of l s c)))
    → P (play l s c room)
unfolding play perform perform_as
by_play P l s c room no-image no-fit no_room length-wrong class form command =
    let i = instruction_of (byte c 1) in
    let w = first (formed i (byte c 2) (byte c 3) (byte c 4)) in
    choice P (is_image l) _ _
    (λ m.
    choice P (fits (head l) s) _ _
    (λ g.
    choice P (ltb room 258) _ _ (λ r. no_room)
    (λ r.
    choice P (ltb (length c) 5) _ _ (λ v. length-wrong)
    (λ v.
    choice P (eqb (byte c 0) 0xa0) _ _
    (λ t.
    choice P (eqb w 0) _ _
    (λ u.
    choice P (eqb (length (drop 5 c)) (sent i (byte c 4))) _ _
    (λ d. command m g (record { form = eqb-true _ _ u; bytes = eqb-true _ _ d }))
    (λ d. length-wrong))
    (λ u. form w))
    (λ t. class))))
    no-fit)
    no-image
