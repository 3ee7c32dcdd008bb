-- Laws of the loops over the numbers below n: how many pass a test, and which is the first.
use Prim.Native.Nat.{ℕ, suc, ◌+◌, ◌-◌, ◌<◌, ◌≤◌}
use mathlib.Core.Path.{◌≡◌, refl, sym, ◌∙◌}
use mathlib.Core.Bool.{Bool, true, false}
use native.Mathlib.Omega.{arith}
use native.Mathlib.Numerals.{add-one}
use Rattle.card.specs.Bytes.{bit, how_many, first_from}

module _ (p : ℕ → Bool) where
  pub count_none : 0 ≡ how_many 0 p
  unfolding how_many
  count_none = refl

  pub count_more : (i r b : ℕ) → r ≡ how_many i p → b ≡ bit (p i) → r + b ≡ how_many (i + 1) p
  unfolding how_many
  count_more i r b h k = rw (add-one i, h, k)

  pub count_end : (n i r : ℕ) → i ≤ n → n ≤ i → r ≡ how_many i p → r ≡ how_many n p
  count_end n i r a b h = let e : i ≡ n = omega arith in rw (← e) h

module _ (p : ℕ → Bool) where
  step : (m k : ℕ) → p k ≡ false → first_from p (suc m) k ≡ first_from p m (k + 1)
  unfolding first_from
  step m k h = rw (first_from, h)

  here : (m k : ℕ) → p k ≡ true → first_from p (suc m) k ≡ k
  unfolding first_from
  here m k h = rw (first_from, h)

  ends : (k : ℕ) → first_from p 0 k ≡ k
  unfolding first_from
  ends k = refl

  pub search_none : (n : ℕ) → first_from p n 0 ≡ first_from p (n - 0) 0
  search_none n = let e : n - 0 ≡ n = omega arith in rw e

  pub search_more : (n i : ℕ) → i < n → first_from p n 0 ≡ first_from p (n - i) i → p i ≡ false → first_from p n 0 ≡ first_from p (n - (i + 1)) (i + 1)
  search_more n i lt e h =
      let more : n - i ≡ suc (n - (i + 1)) = omega arith in
      e ∙ rw more (step (n - (i + 1)) i h)

  pub search_found : (n i : ℕ) → i < n → first_from p n 0 ≡ first_from p (n - i) i → p i ≡ true → i ≡ first_from p n 0
  search_found n i lt e h =
      let more : n - i ≡ suc (n - (i + 1)) = omega arith in
      sym (e ∙ rw more (here (n - (i + 1)) i h))

  pub search-end : (n i : ℕ) → i ≤ n → n ≤ i → first_from p n 0 ≡ first_from p (n - i) i → n ≡ first_from p n 0
  search-end n i a b e =
      let none_left : n - i ≡ 0 = omega arith in
      let same : i ≡ n = omega arith in
      sym (e ∙ rw none_left (ends i ∙ same))
