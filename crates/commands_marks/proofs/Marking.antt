-- The bit of a status that INVALIDATE and REHABILITATE change.
use Prim.Native.Nat.{ℕ, ◌+◌, ◌-◌, ◌%◌, ◌<◌}
use mathlib.Core.Path.{◌≡◌}
use native.Mathlib.Omega.{arith}
use lib.Bits.{bit_and, bit_or}
use lib.Dec.{eqb}
use borrow.Author.Tests.{eqb-true, eqb-false, not-false}
use Rattle.std.proofs.lemmas.Grind.{common_steps}
use Rattle.std.proofs.lemmas.Nat.{or_disjoint}
use mathlib.Core.Bool.{false, not}

-- b1 of a status that has it, and of one that has not
pub cleared : (n : ℕ) → n < 256 → not (eqb (n % 2) 1) ≡ false → bit_and n 0xfe ≡ n - 1
cleared n h b = let v : n % 2 ≡ 1 = eqb-true _ _ (not-false _ b) in grind (arith, common_steps)

pub raised : (n : ℕ) → eqb (n % 2) 1 ≡ false → bit_or n 1 ≡ n + 1
raised n b =
    let v : n % 2 ≡ 1 → ⊥ = eqb-false _ _ b in
    let d : bit_and n 1 ≡ 0 = grind (arith, common_steps) in
    or_disjoint n 1 d
