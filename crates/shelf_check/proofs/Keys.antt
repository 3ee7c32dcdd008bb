-- Laws of marks and keys: with exactly the keys of the numbers below n marked, number n shares its key with none of them exactly if its
-- own key is not marked.
use Prim.Native.Nat.{ℕ, zero, suc, ◌+◌, ◌/◌, ◌%◌, ◌^◌, ◌<◌, ◌≤◌}
use mathlib.Core.Path.{◌≡◌, refl, sym, ap, ◌∙◌, subst}
use mathlib.Core.List.{List, [], ◌∷◌}
use mathlib.Core.Bool.{Bool, true, false, ◌&&◌, ◌||◌, not, and_comm, and_assoc}
use mathlib.Core.Logic.{◌⊎◌, inl, inr}
use native.Mathlib.Numerals.{add-one}
use native.Mathlib.Omega.{arith}
use native.Mathlib.Nat.{zero-div}
use lib.Dec.{eqb}
use lib.ListN.{length, get_or, replicate, length-replicate}
use Rattle.card.specs.Bytes.{byte, every, none}
use Rattle.card.specs.Shelf.{all}
use Rattle.card.proofs.Tests.{both, every_at, decided}
use Rattle.shelf_check.specs.Marks.{raised, marked, Adds, seen, Holds}
use Rattle.shelf_check.specs.Apart.{without}

-- tests that agree below n
every_alike : (n : ℕ) (p q : ℕ → Bool) → ((k : ℕ) → k < n → p k ≡ q k) → every n p ≡ every n q
unfolding every
every_alike zero p q h = refl
every_alike (suc n) p q h = λ i. every_alike n p q (λ k l. h k (omega arith)) i && h n (omega arith) i

none_alike : (n : ℕ) (p q : ℕ → Bool) → ((k : ℕ) → k < n → p k ≡ q k) → none n p ≡ none n q
unfolding none
none_alike n p q h = every_alike n (λ k. not (p k)) (λ k. not (q k)) (λ k l. ap not (h k l))

not_not : (b : Bool) → b ≡ not (not b)
not_not true = refl
not_not false = refl

either_not : (a b : Bool) → (b || not a) ≡ not (a && not b)
either_not true true = refl
either_not true false = refl
either_not false true = refl
either_not false false = refl

-- no mark in words of 0
zeros : (n k : ℕ) → byte (replicate n 0) k ≡ 0
zeros zero k = refl
zeros (suc n) zero = refl
zeros (suc n) (suc k) = zeros n k

unmarked : (n x : ℕ) → marked (replicate n 0) x ≡ false
unfolding marked raised
unmarked n x =
    ap (λ w. eqb (w / 2 ^ (x % 32) % 2) 1) (zeros n (x / 32)) ∙ ap (λ w. eqb (w % 2) 1) (zero-div (2 ^ (x % 32)))

module _ (key : ℕ → ℕ) where
  none_seen : (x : ℕ) → seen key 0 x ≡ false
  unfolding seen none every
  none_seen x = refl

  seen_more : (n x : ℕ) → (eqb (key n) x || seen key n x) ≡ seen key (n + 1) x
  unfolding seen none every
  seen_more n x = rw (add-one n) (either_not (none n (λ k. eqb (key k) x)) (eqb (key n) x))

  fresh : (n : ℕ) → n ≡ 256 → Holds (replicate n 0) key 0
  fresh n e = record { size = length-replicate {A = ℕ} n 0 ∙ e; at = λ x h. unmarked n x ∙ sym (none_seen x) }

  holds_none : Holds (replicate 256 0) key 0
  holds_none = fresh 256 refl

  holds_more : {m m' : List ℕ} {n : ℕ} → Holds m key n → Adds m (key n) m' → Holds m' key (n + 1)
  holds_more {n = n} h a =
      record { size = a.size; at = λ x l. a.at x l ∙ ap (λ t. eqb (key n) x || t) (h.at x l) ∙ seen_more n x }

  lone : {m : List ℕ} (n : ℕ) (twin : ℕ → Bool) → Holds m key n → key n < 8192
      → ((k : ℕ) → k < n → twin k ≡ eqb (key k) (key n))
      → none n twin ≡ not (marked m (key n))
  unfolding seen
  lone n twin h small alike =
      none_alike n twin (λ k. eqb (key k) (key n)) alike ∙ not_not _ ∙ ap not (sym (h.at (key n) small))

-- What a pass over the entries of one kind knows after n of them: whether all keep their rules, and if so the marks hold their keys.
pub record Pass (rules : ℕ → Bool) (key : ℕ → ℕ) (n : ℕ) (sound : Bool) (m : List ℕ) : Type 0 where
  pub is : sound ≡ every n rules
  pub size : length m ≡ 256
  pub held : sound ≡ true → Holds m key n

module _ (rules : ℕ → Bool) (key : ℕ → ℕ) where
  -- no mark yet
  pub pass_none : {m : List ℕ} → m ≡ replicate 256 0 → Pass rules key 0 true m
  unfolding every
  pass_none e = let h = holds_none key in rw e (record { is = refl; size = h.size; held = λ t. h })

  pub pass_end : {s : Bool} {m : List ℕ} (n i : ℕ) → i ≤ n → n ≤ i → Pass rules key i s m → s ≡ every n rules
  pass_end n i a b p = let e : i ≡ n = omega arith in rw (← e) p.is

  every_step : (n : ℕ) → every (n + 1) rules ≡ (every n rules && rules n)
  unfolding every
  every_step n = rw (add-one n)

  joined : (s r t : Bool) (n : ℕ) → s ≡ every n rules → (s ≡ true → (r && not t) ≡ rules n) → (s && r && not t) ≡ every (n + 1) rules
  joined s r t n e h = go (decided s)
    where
      go : (s ≡ true) ⊎ (s ≡ false) → (s && r && not t) ≡ every (n + 1) rules
      go (inl y) = rw (every_step n, ← e, y) (h y)
      go (inr y) = rw (every_step n, ← e, y)

-- Entries of one kind: each keeps its own rules and has no twin among those before it. Where two keep their own rules, they are twins
-- exactly if their keys are equal.
module _
    (limit : ℕ)
    (rules own : ℕ → Bool)
    (twin : ℕ → ℕ → Bool)
    (key : ℕ → ℕ)
    (split : (n : ℕ) → rules n ≡ (own n && none n (λ k. twin k n)))
    (alike : (k n : ℕ) → k < n → n < limit → own k ≡ true → own n ≡ true → twin k n ≡ eqb (key k) (key n))
    (small : (n : ℕ) → n < limit → own n ≡ true → key n < 8192)
  where
    fails : (n : ℕ) → own n ≡ false → rules n ≡ false
    fails n h = split n ∙ ap (λ t. t && none n (λ k. twin k n)) h

    owns : (n : ℕ) → rules n ≡ true → own n ≡ true
    owns n h = (both (own n) (none n (λ k. twin k n)) (sym (split n) ∙ h)).0

    -- the marks decide
    decides : {m : List ℕ} (n : ℕ) → n < limit → every n rules ≡ true → own n ≡ true → Holds m key n
        → rules n ≡ not (marked m (key n))
    decides n few before h held =
        split n
        ∙ ap (λ t. t && none n (λ k. twin k n)) h
        ∙ lone key n (λ k. twin k n) held (small n few h) (λ k lt. alike k n lt few (owns k (every_at n rules before k lt)) h)

    -- Entry n, whose own rules were found to hold or not, and whose key y, cut to what can be marked, was found among the marks or not.
    -- Where its own rules hold the key was not cut.
    uncut : (n y : ℕ) → n < limit → y ≡ key n → own n ≡ true → y % 8192 ≡ key n
    uncut n y few keyed h = let less : key n < 8192 = small n few h in omega arith

    found : {m : List ℕ} (n : ℕ) (r t : Bool) (y : ℕ) → n < limit → r ≡ own n → y ≡ key n → t ≡ marked m (y % 8192) → every n rules ≡ true → Holds m key n
        → (r && not t) ≡ rules n
    found {m} n r t y few mine keyed met before held = go (decided (own n))
      where
        go : (own n ≡ true) ⊎ (own n ≡ false) → (r && not t) ≡ rules n
        go (inl h) = rw (mine, h, met, uncut n y few keyed h) (sym (decides n few before h held))
        go (inr h) = rw (mine, h) (sym (fails n h))

    pub pass_more : {m m' : List ℕ} {n : ℕ} {s r t : Bool} {y : ℕ} → n < limit → r ≡ own n → y ≡ key n
        → Pass rules key n s m → t ≡ marked m (y % 8192) → Adds m (y % 8192) m'
        → Pass rules key (n + 1) (s && r && not t) m'
    pass_more {m} {m'} {n} {s} {r} {t} {y} few mine keyed p met adds =
        record {
          is = joined rules key s r t n p.is (λ h. found n r t y few mine keyed met (sym p.is ∙ h) (p.held h));
          size = adds.size;
          held = λ h.
              let b = both (s && r) (not t) h in
              let c = both s r b.0 in
              holds_more key (p.held c.0) (subst (λ x. Adds m x m') (uncut n y few keyed (sym mine ∙ c.1)) adds);
        }

-- a rule taken out of a list of rules
pub taken_out : (bs : List Bool) (k : ℕ) → all bs ≡ (without k bs && get_or bs k true)
unfolding all
taken_out [] k = refl
taken_out (b ∷ bs) zero = and_comm b (all bs)
taken_out (b ∷ bs) (suc k) = ap (λ t. b && t) (taken_out bs k) ∙ sym (and_assoc b (without k bs) (get_or bs k true))
