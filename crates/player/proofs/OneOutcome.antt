-- `OneOutcome` and `OneLent` hold: each part is an equation, and the paper's numbers tell the answers apart.
use Prim.Native.Nat.{ℕ}
use mathlib.Core.Path.{◌≡◌, refl, sym, ap, ◌∙◌}
use mathlib.Core.Bool.{true, false}
use lib.Dec.{eqb}
use Rattle.card.specs.Answers.{number}
use Rattle.card.specs.declared.Answer.{Answer}
use Rattle.card.specs.declared.Answer.TheVariants.{Played as Done, NotAnImage, DoesNotFit, RoomTooSmall, WrongLength}
use Rattle.player.specs.declared.Played.{Played}
use Rattle.player.specs.OneOutcome.{OneOutcome, OneLent}

-- the answer of a number
abbrev answer : ℕ → Answer
answer n =
    elim (eqb n 0) [
      | true ↦ Done
      | false ↦
          elim (eqb n 1) [
            | true ↦ NotAnImage
            | false ↦ elim (eqb n 2) [ true ↦ DoesNotFit | false ↦ elim (eqb n 3) [ true ↦ RoomTooSmall | false ↦ WrongLength ] ]
          ]
    ]

back : (a : Answer) → answer (number a) ≡ a
back Done = refl
back NotAnImage = refl
back DoesNotFit = refl
back RoomTooSmall = refl
back WrongLength = refl

apart : (a b : Answer) → number a ≡ number b → a ≡ b
apart a b e = sym (back a) ∙ ap answer e ∙ back b

pub one-outcome : OneOutcome
one-outcome o r r' was image image' room room' x y =
    let a : r.answer ≡ r'.answer = apart r.answer r'.answer (x.answer ∙ sym y.answer) in
    let c : r.count ≡ r'.count = x.count ∙ sym y.count in
    let s : r.session ≡ r'.session = x.session ∙ sym y.session in
    ((λ i. record { answer = a i; count = c i; session = s i }), (x.image' ∙ sym y.image', x.room ∙ sym y.room))

pub one_lent : OneLent
one_lent o r r' s s' was image image' room room' x y =
    let w = one-outcome o _ _ was image image' room room' x y in
    (ap (λ (p : Played). record { answer = p.answer; count = p.count }) w.0, (ap (λ (p : Played). p.session) w.0, w.1))
