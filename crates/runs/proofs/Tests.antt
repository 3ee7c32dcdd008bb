-- Both tests as one, by what an examination found.
use Prim.Native.Nat.{ℕ}
use mathlib.Core.Path.{◌≡◌, refl, sym, ◌∙◌}
use mathlib.Core.List.{List}
use mathlib.Core.Bool.{Bool, true, false, ◌&&◌}
use Rattle.std.specs.Result.{is_ok}
use Rattle.card.specs.Layout.{head}
use Rattle.card.specs.Sessions.{fits}
use Rattle.card.specs.Shelf.{is_image}
use Rattle.card.specs.declared.Session.{Session}
use Rattle.card.proofs.Tests.{both}
use Rattle.acts.specs.Ready.{Ready}
use Rattle.shelf_check.specs.Examined.{answer_of, examined}

agreed : (b f : Bool) → is_ok (answer_of b f) ≡ (b && f)
agreed true true = refl
agreed true false = refl
agreed false f = refl

module _ (l : List ℕ) (s : Session) {t : Bool} (e : t ≡ is_ok (examined l s)) where
  pub value : t ≡ (is_image l && fits (head l) s)
  unfolding examined
  value = e ∙ agreed (is_image l) (fits (head l) s)

  pub ready : t ≡ true → Ready l s
  ready h = let p = both (is_image l) (fits (head l) s) (sym value ∙ h) in record { image = p.0; session = p.1 }
