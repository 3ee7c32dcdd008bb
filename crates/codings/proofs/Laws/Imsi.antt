-- IMSI: the half before the first digit.
use Prim.Native.Nat.{ℕ, ◌%◌, ◌<◌}
use mathlib.Core.Path.{◌≡◌, ap, sym}
use mathlib.Core.Bool.{Bool, true, false}
use native.Mathlib.Omega.{arith}
use borrow.Author.Tests.{eq-eqb, ne_eqb}
use lib.Dec.{eqb}
use Rattle.codings.specs.Imsi.{mark}

module _ (n : ℕ) where
  pub odd : n % 2 ≡ 1 → 9 ≡ mark n
  unfolding mark
  odd h = sym (ap (λ (t : Bool). elim t [ true ↦ 9 | false ↦ 1 ]) (eq-eqb _ _ h))

  pub even : (n % 2 ≡ 1 → ⊥) → 1 ≡ mark n
  unfolding mark
  even h = sym (ap (λ (t : Bool). elim t [ true ↦ 9 | false ↦ 1 ]) (ne_eqb _ _ h))

pub mark_small : (n : ℕ) → mark n < 16
unfolding mark
mark_small n = go (eqb (n % 2) 1)
  where
    go : (t : Bool) → elim t [ true ↦ 9 | false ↦ 1 ] < 16
    go true = omega arith
    go false = omega arith
