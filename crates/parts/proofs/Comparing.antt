-- Lists that compare as the same are the same.
use Prim.Native.Nat.{ℕ}
use mathlib.Core.Path.{◌≡◌, refl, ap₂}
use mathlib.Core.List.{List, [], ◌∷◌}
use mathlib.Core.Bool.{Bool, true, ◌&&◌, false≢true}
use lib.Dec.{eqb}
use borrow.Author.Tests.{eqb-true}
use Rattle.card.specs.Bytes.{same}
use Rattle.card.proofs.Tests.{both}

pub same_true : (x y : List ℕ) → same x y ≡ true → x ≡ y
unfolding same
same_true [] [] e = refl
same_true [] (b ∷ y) e = absurd (false≢true e)
same_true (a ∷ x) [] e = absurd (false≢true e)
same_true (a ∷ x) (b ∷ y) e =
    let h : (eqb a b ≡ true) × (same x y ≡ true) = both (eqb a b) (same x y) e in
    ap₂ (λ (v : ℕ) (l : List ℕ). v ∷ l) (eqb-true a b h.0) (same_true x y h.1)
