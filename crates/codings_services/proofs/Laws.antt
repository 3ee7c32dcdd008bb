-- The two bits of a place in its byte, and a service past the end.
use Prim.Native.Nat.{ℕ, ◌+◌, ◌-◌, ◌*◌, ◌/◌, ◌%◌, ◌≤◌, ◌<◌, ◌^◌}
use mathlib.Core.Path.{◌≡◌, refl, ap, ◌∙◌, sym}
use mathlib.Core.List.{List}
use native.Mathlib.Omega.{arith}
use lib.ListN.{length, get_or, get_or-eq_default}
use Rattle.codings.specs.Services.{unit, pair_of, said}
use Rattle.codings.specs.declared.services.Service.TheVariants.{NotAllocated}
use Rattle.codings.proofs.Laws.Services.{by_unit, not_allocated}

pub unit_fits : (i : ℕ) → 4 ^ (i % 4) < 256
unfolding unit
unit_fits i = by_unit (λ u. u < 256) (omega arith) (omega arith) (omega arith) (omega arith) i

module _ (b i : ℕ) where
  pub some_unit : 0 < unit i
  some_unit = by_unit (λ u. 0 < u) (omega arith) (omega arith) (omega arith) (omega arith) i

  pub pair_part : pair_of b i * unit i ≤ b
  unfolding pair_of
  pair_part = by_unit (λ u. b / u % 4 * u ≤ b) (omega arith) (omega arith) (omega arith) (omega arith) i

  pub pair_fits : (q : ℕ) → q < 4 → q * unit i < 256
  pair_fits q h = by_unit (λ u. q * u < 256) (omega arith) (omega arith) (omega arith) (omega arith) i

  pub byte_fits : (q : ℕ) → q < 4 → b < 256 → b - pair_of b i * unit i + q * unit i < 256
  unfolding pair_of
  byte_fits q h k = by_unit (λ u. b - b / u % 4 * u + q * u < 256) (omega arith) (omega arith) (omega arith) (omega arith) i

-- no bits say "not allocated"
nothing : (i : ℕ) → NotAllocated ≡ said (pair_of 0 i)
unfolding pair_of
nothing i = not_allocated (pair_of 0 i) (even i)
  where
    even : (i : ℕ) → pair_of 0 i % 2 ≡ 0
    even i = by_unit (λ u. 0 / u % 4 % 2 ≡ 0) refl refl refl refl i

-- past the end all bits are 0
pub past_end : (l : List ℕ) (k i : ℕ) → length l ≤ k → said (pair_of (get_or l k 0) i) ≡ NotAllocated
past_end l k i h = ap (λ (b : ℕ). said (pair_of b i)) (get_or-eq_default l 0 {n = k} h) ∙ sym (nothing i)
