-- What a command of the right form has shown: its P1, P2 and P3, and of a command on a code its number and its length.
use Prim.Native.Nat.{ℕ, ◌-◌, ◌/◌, ◌<◌}
use mathlib.Core.Path.{◌≡◌, refl}
use mathlib.Core.List.{[], ◌∷◌}
use mathlib.Core.Bool.{Bool, true, false, not, ◌||◌}
use mathlib.Core.Logic.{◌⊎◌, inl, inr}
use native.Mathlib.Omega.{arith}
use lib.Dec.{eqb}
use borrow.Author.Tests.{eqb-true, not-false}
use Rattle.card.specs.Answers.{first, ◌says◌}
use Rattle.card.specs.Forms.{code_number, exactly}
use Rattle.card.proofs.Tests.{both, one_of}
use Rattle.card.proofs.Refusals.{passed}

-- a command with a fixed length
pub fixed : (right : Bool) (k w n : ℕ) → first (false says 0x6d00 ∷ not right says 0x6b00 ∷ exactly k w n ∷ []) ≡ 0 → eqb w 0 ≡ false
    → (right ≡ true) × (n ≡ k)
fixed right k w n p z =
    let q = passed (not right) _ _ (passed false _ _ p refl).1 refl in
    (not-false _ q.0, eqb-true _ _ (not-false _ (passed (not (eqb n k)) _ _ q.1 z).0))

-- a command on a code, by the two numbers that P2 may be
pub numbered : (p q n a z k w : ℕ) → first (false says 0x6d00 ∷ not (code_number a z p q) says 0x6b00 ∷ exactly k w n ∷ []) ≡ 0
    → eqb w 0 ≡ false
    → ((q ≡ a) ⊎ (q ≡ z)) × (n ≡ k)
numbered p q n a z k w e t = (go (one_of (eqb q a) (eqb q z) (both (eqb p 0) (eqb q a || eqb q z) g.0).1), g.1)
  where
    g : (code_number a z p q ≡ true) × (n ≡ k)
    g = fixed (code_number a z p q) k w n e t

    go : (eqb q a ≡ true) ⊎ (eqb q z ≡ true) → (q ≡ a) ⊎ (q ≡ z)
    go (inl u) = inl (eqb-true _ _ u)
    go (inr u) = inr (eqb-true _ _ u)

pub minus_one : (q : ℕ) → (q ≡ 1) ⊎ (q ≡ 2) → q - 1 < 2
minus_one q (inl e) = omega arith
minus_one q (inr e) = omega arith

pub halved : (q : ℕ) → (q ≡ 0) ⊎ (q ≡ 2) → q / 2 < 2
halved q (inl e) = omega arith
halved q (inr e) = omega arith
