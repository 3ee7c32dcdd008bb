-- Laws of an examination: its ways out, and what it says where nothing is in the way.
use Prim.Native.Nat.{ℕ}
use mathlib.Core.Path.{◌≡◌, refl, sym, ap, ap₂}
use mathlib.Core.List.{List}
use mathlib.Core.Bool.{Bool, true, false, true≢false}
use Rattle.std.specs.Prelude.{Result, Ok, Err}
use Rattle.card.specs.Layout.{head}
use Rattle.card.specs.Sessions.{fits}
use Rattle.card.specs.Shelf.{is_image}
use Rattle.card.specs.declared.Answer.{Answer}
use Rattle.card.specs.declared.Session.{Session}
use Rattle.shelf_check.specs.Examined.{answer_of, examined}

-- whether nothing is in the way
abbrev pub passes : Result (Unit {0}) Answer → Bool
passes (Ok x) = true
passes (Err a) = false

module _ (l : List ℕ) (s : Session) where
  -- the answer is that of what both tests found
  pub by_tests : {b f : Bool} → is_image l ≡ b → fits (head l) s ≡ f → answer_of b f ≡ examined l s
  unfolding examined
  by_tests e g = sym (ap₂ answer_of e g)

  -- where nothing is in the way both tests hold
  pub both_hold : Ok tt ≡ examined l s → (is_image l ≡ true) × (fits (head l) s ≡ true)
  unfolding examined
  both_hold = go (is_image l) (fits (head l) s)
    where
      go : (b f : Bool) → Ok tt ≡ answer_of b f → (b ≡ true) × (f ≡ true)
      go true true h = (refl, refl)
      go true false h = absurd (true≢false (ap passes h))
      go false f h = absurd (true≢false (ap passes h))
