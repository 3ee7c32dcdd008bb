-- Laws of SEEK: comparing, and what a search in order finds.
use Rattle.std.specs.Prelude.{Option, Some, None, unwrap_or}
use Prim.Native.Nat.{ℕ, suc, ◌+◌, ◌-◌, ◌*◌, ◌<◌, ◌≤◌}
use mathlib.Core.Path.{◌≡◌, refl, sym, ap, ◌∙◌}
use mathlib.Core.List.{List, []}
use mathlib.Core.Bool.{Bool, true, false, ◌&&◌}
use native.Mathlib.Omega.{arith}
use native.Mathlib.Numerals.{add-one}
use native.Mathlib.Nat.{suc-mul}
use lib.Dec.{eqb}
use borrow.Author.Tests.{eq-eqb, ne_eqb}
use Rattle.std.proofs.lemmas.Bool.Decides.{nat_tests}
use lib.ListN.{length, get_or, drop, drop_of_length-le}
use lib.Seq.{drop-cons, drop-length, get_or-take, get_or-drop}
use Rattle.card.specs.Bytes.{first_from, same, part}
use Rattle.card.specs.Seek.{forward, after, before, sought}
use Rattle.commands_seek.specs.Along.{found}
use Rattle.card.proofs.Parts.{length_part}
use Rattle.card.proofs.Tests.{indeed, otherwise}

-- where a search after the pointer begins
after_is : (p : Option ℕ) → after p ≡ unwrap_or p 0 + 1
after_is None = refl
after_is (Some k) = refl

module _ (b pattern : List ℕ) (m n mode : ℕ) (p : Option ℕ) where
  -- the searches that begin at the first record, at the last, after the pointer and before it
  pub from_first : mode ≡ 0 → found b m pattern true 1 n ≡ sought b m n pattern mode p
  unfolding sought
  from_first z =
      let e : n ≡ n + 1 - 1 = omega arith in
      let f : forward b m pattern 1 n ≡ sought b m n pattern mode p = simp (sought, eq-eqb _ _ z) in
      ap (λ (t : ℕ). found b m pattern true 1 t) e ∙ f

  pub from_after : (k : ℕ) → mode ≡ 2 → k ≡ unwrap_or p 0 → found b m pattern true (k + 1) (n + 1 - (k + 1)) ≡ sought b m n pattern mode p
  unfolding sought
  from_after k z e = let f : after p ≡ k + 1 = after_is p ∙ ap (λ (i : ℕ). i + 1) (sym e) in simp (z, f)

  pub from_before : (k : ℕ) → (mode ≡ 0 → ⊥) → (mode ≡ 1 → ⊥) → (mode ≡ 2 → ⊥) → k ≡ before n p
      → found b m pattern false k k ≡ sought b m n pattern mode p
  unfolding sought
  from_before k z o t e = simp (sought, ne_eqb _ _ z, ne_eqb _ _ o, ne_eqb _ _ t, e)

-- n bytes from a place on, and a pattern of n bytes: the rest of their comparison, from byte j on
module _ (b pattern : List ℕ) (at : ℕ) (h : at + length pattern ≤ length b) where
  abbrev pub rest : ℕ → Bool
  rest j = same (drop j (part b at (length pattern))) (drop j pattern)

  apart : (j : ℕ) → j < length pattern
      → rest j ≡ (eqb (get_or b (at + j) 0) (get_or pattern j 0) && rest (j + 1))
  unfolding same
  apart j l =
      let m : j < length (part b at (length pattern)) = omega (arith, length_part b at (length pattern) h) in
      let q : get_or (part b at (length pattern)) j 0 ≡ get_or b (at + j) 0 = get_or-take (length pattern) (drop at b) j 0 l ∙ get_or-drop at b j 0 in
      simp (drop-cons (part b at (length pattern)) j 0 m, drop-cons pattern j 0 l, q, add-one)

  pub same_on : (j : ℕ) → j < length pattern → get_or b (at + j) 0 ≡ get_or pattern j 0 → rest j ≡ rest (j + 1)
  same_on j l e = apart j l ∙ simp (eq-eqb _ _ e)

  pub same_miss : (j : ℕ) → j < length pattern → (get_or b (at + j) 0 ≡ get_or pattern j 0 → ⊥) → rest j ≡ false
  same_miss j l e = apart j l ∙ simp (ne_eqb _ _ e)

  pub same_end : (j : ℕ) → j ≡ length pattern → rest j ≡ true
  unfolding same
  same_end j e =
      let l : length (part b at (length pattern)) ≤ length pattern = omega (arith, length_part b at (length pattern) h) in
      let d : drop (length pattern) (part b at (length pattern)) ≡ [] = drop_of_length-le (part b at (length pattern)) l in
      simp (e, drop-length, d)

-- a record of m bytes has room for the pattern
pub fitting : (k m n l : ℕ) → 0 < k → k * m ≤ l → n ≤ m → (k - 1) * m + n ≤ l
fitting k m n l o w h =
    let e : k ≡ suc (k - 1) = omega arith in
    let q : k * m ≡ (k - 1) * m + m = rw (ap (λ (x : ℕ). x * m) e) (suc-mul (k - 1) m) in
    omega arith

pub ruleset comparing = (fitting, arith)

module _ (p : ℕ → Bool) (n i : ℕ) where
  -- a number that fails is passed, one that passes is found, and past the last is the end
  pub search_on : i < n → p i ≡ false → first_from p (n - i) i ≡ first_from p (n - (i + 1)) (i + 1)
  unfolding first_from
  search_on h f = let e : n - i ≡ suc (n - (i + 1)) = omega arith in rw e (sym (otherwise (p i) i (first_from p (n - (i + 1)) (i + 1)) f))

  pub search_hit : i < n → p i ≡ true → first_from p (n - i) i ≡ i
  unfolding first_from
  search_hit h f = let e : n - i ≡ suc (n - (i + 1)) = omega arith in rw e (sym (indeed (p i) i (first_from p (n - (i + 1)) (i + 1)) f))

  pub search_end : n ≤ i → first_from p (n - i) i ≡ i
  unfolding first_from
  search_end h = let e : n - i ≡ 0 = omega arith in rw e

pub ruleset searching = (search_on, search_hit, search_end, nat_tests)
