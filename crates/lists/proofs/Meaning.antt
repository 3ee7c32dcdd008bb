-- `ReadBack`, `EndsEarly` and `OneOutcome` hold.
use Prim.Native.Nat.{ℕ, zero, suc, ◌+◌, ◌/◌, ◌%◌, ◌<◌, ◌≤◌}
use mathlib.Core.Path.{◌≡◌, refl, sym, ap, ap₂, subst, ◌∙◌}
use mathlib.Core.List.{List, [], ◌∷◌, ◌++◌, append_assoc}
use mathlib.Core.Bool.{Bool, true, false}
use native.Mathlib.Nat.{div-add-mod'}
use native.Mathlib.Omega.{arith}
use lib.ListN.{length, take, drop}
use lib.Seq.{take-append_seam, drop-append_seam, drop-drop}
use Rattle.card.specs.Bytes.{word, part, first_from}
use Rattle.card.proofs.Ranges.{find_holds}
use Rattle.card.proofs.Tests.{Order, less, equal, more, order}
use Rattle.lists.specs.Commands.{listed}
use Rattle.lists.specs.Meaning.{spelled, ReadBack, EndsEarly, OneOutcome}
use Rattle.lists.specs.Runs.{outcomes, stops, After}

-- the first command and what stands after it
module _ (c after : List ℕ) where
  abbrev one : List ℕ
  one = length c / 256 ∷ length c % 256 ∷ (c ++ after)

  count : word one 0 ≡ length c
  unfolding word
  count = div-add-mod' (length c) 256

  first : part one 2 (word one 0) ≡ c
  first = ap (λ (n : ℕ). take n (c ++ after)) count ∙ take-append_seam c after

  others : drop (2 + word one 0) one ≡ after
  others = sym (drop-drop (word one 0) 2 one) ∙ ap (λ (n : ℕ). drop n (c ++ after)) count ∙ drop-append_seam c after

pub read_back : ReadBack
unfolding listed spelled
read_back [] end = refl
read_back (c ∷ cs) end =
    let after = spelled cs ++ end in
    ap (λ (x : List ℕ). listed (suc (length cs)) (length c / 256 ∷ length c % 256 ∷ x)) (append_assoc c (spelled cs) end)
    ∙ ap₂ (λ (x y : List ℕ). (x, 258) ∷ listed (length cs) y) (first c after) (others c after)
    ∙ ap (λ (x : List (List ℕ × ℕ)). (c, 258) ∷ x) (read_back cs end)

-- a search ends in its bounds, and what it passed fails the test
search_within : (p : ℕ → Bool) (n k : ℕ) → first_from p n k ≤ k + n
unfolding first_from
search_within p zero k = omega arith
search_within p (suc n) k = go (p k) (search_within p n (k + 1))
  where
    go : (t : Bool) → first_from p n (k + 1) ≤ k + 1 + n → elim t [ true ↦ k | false ↦ first_from p n (k + 1) ] ≤ k + suc n
    go true h = omega arith
    go false h = omega arith

search_passed : (p : ℕ → Bool) (n k j : ℕ) → k ≤ j → j < first_from p n k → p j ≡ false
unfolding first_from
search_passed p zero k j h b = absurd (omega arith)
search_passed p (suc n) k j h b = go (p k) refl b (search_passed p n (k + 1) j) (order k j)
  where
    go : (t : Bool) → p k ≡ t → j < elim t [ true ↦ k | false ↦ first_from p n (k + 1) ] → (k + 1 ≤ j → j < first_from p n (k + 1) → p j ≡ false)
        → Order k j
        → p j ≡ false
    go true e b ih o = absurd (omega arith)
    go false e b ih (less o) = ih (omega arith) b
    go false e b ih (equal o) = rw (← o) e
    go false e b ih (more o) = absurd (omega arith)

pub ends_early : EndsEarly
ends_early l s commands n was r image is x =
    let p = stops l s commands (length was) in
    let e = x.played in (
      omega (arith, e, search_within p n 0),
      ((λ k h. search_passed p n 0 k (omega arith) (omega (arith, e, h))), λ h. rw e (find_holds n p (omega (arith, e, h)))),
    )

pub one_outcome : OneOutcome
one_outcome l s commands n was r r' image image' is is' x y =
    let k : r.played ≡ r'.played = x.played ∙ sym y.played in
    let a = x.after in
    let b : After (outcomes l s commands r.played) l s was r' image' is' = subst (λ (m : ℕ). After (outcomes l s commands m) l s was r' image' is') (sym k) y.after in
    let w = a.written ∙ sym b.written in
    let t = a.session ∙ sym b.session in
    ((λ i. record { played = k i; written = w i; session = t i }), (a.image' ∙ sym b.image', a.answers' ∙ sym b.answers'))
