-- The service table: two bits in a byte, and what reader and writer answer.
use Prim.Native.Nat.{ℕ, zero, suc, ◌-◌, ◌*◌, ◌/◌, ◌%◌, ◌^◌, ◌≤◌, ◌<◌}
use mathlib.Core.Path.{◌≡◌, ap, sym}
use mathlib.Core.List.{List}
use mathlib.Core.Bool.{Bool, true, false}
use native.Mathlib.Omega.{arith}
use borrow.Author.Tests.{eq-eqb, le-leb, lt-leb}
use lib.Dec.{eqb}
use lib.ListN.{length, get_or, set}
use Rattle.codings.specs.Answers.{outcome, done}
use Rattle.codings.specs.Services.{unit, pair_of, said, changed, read, write}
use Rattle.codings.specs.declared.services.Service.{Service}
use Rattle.codings.specs.declared.services.Service.TheVariants.{NotAllocated, Allocated, Activated}
use Rattle.codings.proofs.Laws.Answers.{wrong-length, wrong_value, right}

-- what holds of four numbers holds of each below four
pub below4 : (P : ℕ → Type 0) → P 0 → P 1 → P 2 → P 3 → (r : ℕ) → r < 4 → P r
below4 P a b c d zero h = a
below4 P a b c d (suc zero) h = b
below4 P a b c d (suc (suc zero)) h = c
below4 P a b c d (suc (suc (suc zero))) h = d
below4 P a b c d (suc (suc (suc (suc r)))) h = absurd (omega arith)

pub by_unit : (P : ℕ → Type 0) → P 1 → P 4 → P 16 → P 64 → (i : ℕ) → P (unit i)
unfolding unit
by_unit P a b c d i = below4 (λ r. P (4 ^ r)) a b c d (i % 4) (omega arith)

pub pair_small : (b i : ℕ) → pair_of b i < 4
unfolding pair_of
pair_small b i = omega arith

pub not_allocated : (p : ℕ) → p % 2 ≡ 0 → NotAllocated ≡ said p
unfolding said
not_allocated p h =
    sym (ap (λ (t : Bool). elim t [ true ↦ NotAllocated | false ↦ elim (eqb (p / 2) 0) [ true ↦ Allocated | false ↦ Activated ] ]) (eq-eqb _ _ h))

module _ (l : List ℕ) (n : ℕ) where
  pub short : length l < 2 → outcome 5 NotAllocated ≡ read l n
  unfolding read
  short h = wrong-length _ _ _ _ (lt-leb _ _ h)

  module _ (h : 2 ≤ length l) where
    pub none : n ≡ 0 → outcome 6 NotAllocated ≡ read l n
    unfolding read
    none z = wrong_value _ _ _ _ (le-leb _ _ h) (lt-leb 1 n (omega arith))

    module _ (z : n ≡ 0 → ⊥) where
      pub reads : (p : ℕ) (v : Service) → p ≡ pair_of (get_or l ((n - 1) / 4) 0) (n - 1) → v ≡ said p → done v ≡ read l n
      unfolding read
      reads p v ep ev = rw (ev, ep) (right _ _ _ _ (le-leb _ _ h) (le-leb 1 n (omega arith)))

module _ (l : List ℕ) (n : ℕ) (v : Service) where
  pub no_table : length l < 2 → outcome 5 l ≡ write l n v
  unfolding write
  no_table h = wrong-length _ _ _ _ (lt-leb _ _ h)

  module _ (h : 2 ≤ length l) where
    pub no_service : n ≡ 0 → outcome 6 l ≡ write l n v
    unfolding write
    no_service z = wrong_value _ _ _ _ (le-leb _ _ h) (rw (lt-leb 1 n (omega arith)))

    module _ (z : n ≡ 0 → ⊥) where
      pub no_place : length l ≤ (n - 1) / 4 → outcome 6 l ≡ write l n v
      unfolding write
      no_place k = wrong_value _ _ _ _ (le-leb _ _ h) (rw (le-leb 1 n (omega arith), lt-leb n (4 * length l) (omega arith)))

      pub writes : (b : ℕ) → (n - 1) / 4 < length l → b ≡ changed (get_or l ((n - 1) / 4) 0) (n - 1) v
          → done (set l ((n - 1) / 4) b) ≡ write l n v
      unfolding write
      writes b k eb = rw eb (right _ _ _ _ (le-leb _ _ h) (rw (le-leb 1 n (omega arith), le-leb n (4 * length l) (omega arith))))
