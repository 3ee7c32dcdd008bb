-- One outcome: two results that a promise of `shelf` or `shelf_check` admits are equal. Each promise is an equation of the result with a
-- value of the definition, and that of the index has that equation in it.
use mathlib.Core.Path.{◌≡◌, sym, ◌∙◌}
use mathlib.Core.List.{List}
use mathlib.Core.Bool.{Bool}
use Rattle.std.specs.Prelude.{Result}
use Prim.Native.Nat.{ℕ}
use Rattle.card.specs.Shelf.{is_image}
use Rattle.card.specs.declared.Answer.{Answer}
use Rattle.card.specs.declared.Index.{Index}
use Rattle.card.specs.declared.Session.{Session}
use Rattle.shelf.specs.Reads.{Indexed}
use Rattle.shelf_check.specs.Examined.{examined}

pub one-outcome : {A : Type 0} {r r' x : A} → r ≡ x → r' ≡ x → r ≡ r'
one-outcome p q = p ∙ sym q

pub one_index : {l : List ℕ} {i i' : Index} → Indexed l i → Indexed l i' → i ≡ i'
one_index p q = one-outcome p.is q.is

pub one_verdict : (l : List ℕ) (r r' : Bool) → r ≡ is_image l → r' ≡ is_image l → r ≡ r'
one_verdict l r r' = one-outcome

pub one_examination : (l : List ℕ) (s : Session) (r r' : Result (Unit {0}) Answer) → r ≡ examined l s → r' ≡ examined l s → r ≡ r'
one_examination l s r r' = one-outcome
