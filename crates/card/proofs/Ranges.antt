-- Records and searches stay within their bounds.
use Rattle.std.specs.Prelude.{ℕ, Option, Some, None}
use Prim.Native.Nat.{ℕ, zero, suc, ◌+◌, ◌-◌, ◌<◌, ◌≤◌}
use mathlib.Core.Path.{◌≡◌, refl, ap}
use mathlib.Core.List.{List}
use mathlib.Core.Bool.{Bool, true, false, ◌&&◌, not}
use native.Mathlib.Omega.{arith}
use native.Mathlib.Nat.{mod-lt, mul-le-mul_right, div-mul-le_self}
use lib.Dec.{eqb, leb, ltb}
use borrow.Author.Tests.{eqb-true, ltb-true, leb-true, ne_eqb, lt-ltb, le-leb}
use Rattle.card.specs.Bytes.{first_from, find}
use Rattle.card.specs.Layout.{transparent, linear, cyclic, records}
use Rattle.card.specs.Sessions.{pointed}
use Rattle.card.specs.Records.{next, previous, current_record, chosen, record_at}
use Rattle.card.specs.Seek.{matches, forward, backward, after, before, sought}
use Rattle.card.specs.declared.Entry.{Entry}
use Rattle.card.proofs.Tests.{both, joint, apart, Order, less, equal, more, order}
use Rattle.card.proofs.Refusals.{choice}

-- What a first_from finds passes the test.
pub first_from_holds : (p : ℕ → Bool) (n k : ℕ) → first_from p n k < k + n → p (first_from p n k) ≡ true
unfolding first_from
first_from_holds p zero k h = absurd (omega arith)
first_from_holds p (suc n) k h = go (p k) refl h (first_from_holds p n (k + 1))
  where
    go : (t : Bool) → p k ≡ t → elim t [ true ↦ k | false ↦ first_from p n (k + 1) ] < k + suc n
        → (first_from p n (k + 1) < k + 1 + n → p (first_from p n (k + 1)) ≡ true)
        → p (elim t [ true ↦ k | false ↦ first_from p n (k + 1) ]) ≡ true
    go true e h ih = e
    go false e h ih = ih (omega arith)

pub find_holds : (n : ℕ) (p : ℕ → Bool) → find n p < n → p (find n p) ≡ true
find_holds n p h = first_from_holds p n 0 (omega arith)

-- A first_from finds what passes the test, and the only one that does.
pub first_from_found : (p : ℕ → Bool) (n k d : ℕ) → k ≤ d → d < k + n → p d ≡ true → first_from p n k < k + n
unfolding first_from
first_from_found p zero k d a b t = absurd (omega arith)
first_from_found p (suc n) k d a b t = go (p k) refl (first_from_found p n (k + 1) d)
  where
    go : (u : Bool) → p k ≡ u → (k + 1 ≤ d → d < k + 1 + n → p d ≡ true → first_from p n (k + 1) < k + 1 + n)
        → elim u [ true ↦ k | false ↦ first_from p n (k + 1) ] < k + suc n
    go true e ih = omega arith
    go false e ih = step (order k d)
      where
        step : Order k d → first_from p n (k + 1) < k + suc n
        step (less o) = let i = ih (omega arith) (omega arith) t in omega arith
        step (equal o) = apart t (rw (← o) e)
        step (more o) = absurd (omega arith)

pub find_only : (n : ℕ) (p : ℕ → Bool) (d : ℕ) → d < n → p d ≡ true → ((c : ℕ) → c < n → p c ≡ true → c ≡ d) → find n p ≡ d
find_only n p d h t u =
    let f = first_from_found p n 0 d (omega arith) (omega arith) t in
    let i : first_from p n 0 < n = omega arith in
    u (find n p) i (find_holds n p i)

-- A cyclic file and a linear one are not transparent.
pub cyclic_rows : (e : Entry) → cyclic e ≡ true → transparent e ≡ false
cyclic_rows e p = let q = eqb-true e.structure 3 p in ne_eqb e.structure 0 (λ z. omega arith)

pub linear_rows : (e : Entry) → linear e ≡ true → transparent e ≡ false
linear_rows e p = let q = eqb-true e.structure 1 p in ne_eqb e.structure 0 (λ z. omega arith)

-- A record lies within the file's bytes.
pub record_in : (e : Entry) (k : ℕ) → 0 < records e → record_at e k + e.width ≤ e.size
record_in e k h =
    let x = e.top + k - 1 in
    let a = mul-le-mul_right e.width (mod-lt x {m = records e} h) in
    let b = div-mul-le_self e.size e.width in
    omega (arith, a, b)

-- A pointer that fits stands within the records.
pub pointer_le : (e : Entry) (p : Option ℕ) → pointed e p ≡ true → (k : ℕ) → p ≡ Some k → k ≤ records e
unfolding pointed
pointer_le e p h k q = leb-true _ _ (both (not (transparent e) && ltb 0 k) (leb k (records e)) (rw q at h)).1

pub pointer_fits : (e : Entry) (k : ℕ) → transparent e ≡ false → 0 < k → k ≤ records e → pointed e (Some k) ≡ true
unfolding pointed
pointer_fits e k t a b = joint (joint (ap not t) (lt-ltb _ _ a)) (le-leb _ _ b)

pub pointer_none : (e : Entry) → pointed e None ≡ true
unfolding pointed
pointer_none e = refl

module _ (e : Entry) (some : 0 < records e) where
  next_le : (p : Option ℕ) → next e p ≤ records e
  next_le None = some
  next_le (Some k) =
      choice (λ x. x ≤ records e) (ltb k (records e)) _ _ (λ t. let u = ltb-true k (records e) t in omega arith)
      (λ t. choice (λ x. x ≤ records e) (cyclic e) _ _ (λ c. some) (λ c. omega arith))

  previous_le : (p : Option ℕ) → ((k : ℕ) → p ≡ Some k → k ≤ records e) → previous e p ≤ records e
  previous_le None h = omega arith
  previous_le (Some k) h =
      let n = h k refl in
      choice (λ x. x ≤ records e) (ltb 1 k) _ _ (λ t. omega arith)
      (λ t. choice (λ x. x ≤ records e) (cyclic e) _ _ (λ c. omega arith) (λ c. omega arith))

  current_le : (p : Option ℕ) → ((k : ℕ) → p ≡ Some k → k ≤ records e) → current_record p ≤ records e
  current_le None h = omega arith
  current_le (Some k) h = h k refl

  -- The record that a mode chooses is one of them.
  pub chosen_le : (n mode : ℕ) (p : Option ℕ) → ((k : ℕ) → p ≡ Some k → k ≤ records e) → chosen e n mode p ≤ records e
  unfolding chosen
  chosen_le n mode p h =
      choice (λ x. x ≤ records e) (eqb mode 2) _ _ (λ t. next_le p)
      (λ t.
      choice (λ x. x ≤ records e) (eqb mode 3) _ _ (λ t. previous_le p h)
      (λ t.
      choice (λ x. x ≤ records e) (eqb n 0) _ _ (λ t. current_le p h)
      (λ t. choice (λ x. x ≤ records e) (leb n (records e)) _ _ (λ t. leb-true n (records e) t) (λ t. omega arith))))

-- The record that SEEK finds is one of them.
module _ (b : List ℕ) (m n : ℕ) (pattern : List ℕ) where
  forward_le : (from : ℕ) → forward b m pattern from n ≤ n
  forward_le from =
      let i = find (n + 1 - from) (λ i. matches b m pattern (from + i)) in
      choice (λ x. x ≤ n) (ltb i (n + 1 - from)) _ _ (λ t. let u = ltb-true i (n + 1 - from) t in omega (arith, u)) (λ t. omega arith)

  backward_le : (from : ℕ) → from ≤ n → backward b m pattern from ≤ n
  backward_le from h =
      let i = find from (λ i. matches b m pattern (from - i)) in
      choice (λ x. x ≤ n) (ltb i from) _ _ (λ t. omega arith) (λ t. omega arith)

  before_le : (p : Option ℕ) → ((k : ℕ) → p ≡ Some k → k ≤ n) → before n p ≤ n
  before_le None h = omega arith
  before_le (Some k) h = let u = h k refl in omega arith

  pub sought_le : (mode : ℕ) (p : Option ℕ) → ((k : ℕ) → p ≡ Some k → k ≤ n) → sought b m n pattern mode p ≤ n
  unfolding sought
  sought_le mode p h =
      choice (λ x. x ≤ n) (eqb mode 0) _ _ (λ t. forward_le 1)
      (λ t.
      choice (λ x. x ≤ n) (eqb mode 1) _ _ (λ t. backward_le n (omega arith))
      (λ t. choice (λ x. x ≤ n) (eqb mode 2) _ _ (λ t. forward_le (after p)) (λ t. backward_le (before n p) (before_le p h))))
