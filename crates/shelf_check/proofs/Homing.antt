-- Laws of the table of what a file's identifier starts with: how it is made, and a file's rules by it.
use Prim.Native.Nat.{ℕ, ◌/◌, ◌%◌, ◌<◌}
use mathlib.Core.Path.{◌≡◌, refl, sym, ap, ◌∙◌}
use mathlib.Core.List.{List, [], ◌∷◌}
use mathlib.Core.Bool.{Bool, true, false, ◌&&◌, and-true, and_assoc, and_comm}
use mathlib.Core.Logic.{◌⊎◌, inl, inr}
use native.Mathlib.Omega.{arith}
use borrow.Author.Tests.{eqb-true, eq-eqb, ltb-true, ltb-false, lt-ltb}
use lib.Dec.{eqb, ltb}
use lib.ListN.{get_or, replicate, length-replicate, get_or-replicate}
use Rattle.card.specs.Layout.{index, directory}
use Rattle.card.specs.Shelf.{all, within, file_rules}
use Rattle.card.specs.declared.Entry.{Entry}
use Rattle.card.proofs.Tests.{both, joint, decided, same_test}
use Rattle.shelf_check.specs.Apart.{picked, own_file, zero_rules, structure_rules}
use Rattle.shelf_check.specs.Homes.{Homes}

module _ (l : List ℕ) where
  pub homes_none : Homes l 0 (replicate 32 256)
  homes_none =
      record {
        size = length-replicate {A = ℕ} 32 256;
        few = omega arith;
        at = λ d lt. absurd (omega arith);
        rest = λ d a lt. get_or-replicate 32 d 256 0 lt;
      }

and_left_comm : (a b c : Bool) → (a && (b && c)) ≡ (b && (a && c))
and_left_comm true b c = refl
and_left_comm false true c = refl
and_left_comm false false c = refl

regroup : (a b c d x y : Bool) → (a && b) ≡ (x && y) → (a && (b && c) && d) ≡ (x && y && (c && d))
regroup a b c d x y h = ap (λ t. t && d) (sym (and_assoc a b c)) ∙ and_assoc (a && b) c d ∙ ap (λ t. t && (c && d)) h

-- a file's rules in the order in which they are tested, and in the definition's
sorted : (r : ℕ → Bool)
    → (r 0 && r 3 && (r 2 && (r 8 && (r 9 && true)) && (r 1 && (r 5 && (r 6 && (r 7 && (r 10 && true)))))))
    ≡ (r 0 && (r 1 && (r 2 && (r 3 && (r 5 && (r 6 && (r 7 && (r 8 && (r 9 && (r 10 && true))))))))))
sorted r = simp (and-true, and_assoc, and_comm, and_left_comm)

-- A file's rules but for twins: where it lies and what its identifier starts with by the table, and then the others.
module _ (l homes : List ℕ) (t : Homes l (index l).directories homes) (e : Entry) (word : e.identifier < 65536) where
  abbrev starts : Bool
  starts = eqb (e.identifier / 256) (get_or homes (e.home % 32) 0)

  abbrev there : Bool
  there = ltb e.home (index l).directories

  abbrev housed : Bool
  housed = eqb (e.identifier / 256) (within ((directory l e.home).identifier / 256))

  placed : (starts && ltb e.home 32) ≡ (there && housed)
  placed = same_test _ _ to from
    where
      go : e.home < 32 → e.identifier / 256 ≡ get_or homes e.home 0 → (there ≡ true) ⊎ (there ≡ false) → (there && housed) ≡ true
      go few h (inl y) = joint y (eq-eqb _ _ (h ∙ t.at e.home (ltb-true _ _ y)))
      go few h (inr n) = let x = t.rest e.home (ltb-false _ _ n) few in absurd (omega arith)

      to : (starts && ltb e.home 32) ≡ true → (there && housed) ≡ true
      to h =
          let p = both starts (ltb e.home 32) h in
          let few : e.home < 32 = ltb-true _ _ p.1 in
          let low : e.home % 32 ≡ e.home = omega arith in
          go few (rw low at (eqb-true (e.identifier / 256) (get_or homes (e.home % 32) 0) p.0)) (decided there)

      from : (there && housed) ≡ true → (starts && ltb e.home 32) ≡ true
      from h =
          let p = both there housed h in
          let y : e.home < (index l).directories = ltb-true _ _ p.0 in
          let few : e.home < 32 = omega (arith, t.few) in
          let low : e.home % 32 ≡ e.home = omega arith in
          let at : e.identifier / 256 ≡ get_or homes (e.home % 32) 0 = rw low (eqb-true _ _ p.1 ∙ sym (t.at e.home y)) in
          joint (eq-eqb _ _ at) (lt-ltb _ _ few)

  pub own-file : (z s : Bool) → z ≡ zero_rules e → s ≡ structure_rules e → (starts && z && s) ≡ own_file l e
  unfolding own_file zero_rules structure_rules file_rules all
  own-file z s h k =
      ap (λ b. starts && b && s) h
      ∙ regroup starts (ltb e.home 32) zero s there housed placed
      ∙ ap (λ b. there && housed && (zero && b)) k
      ∙ sorted (λ n. get_or (file_rules l 0 e) n true)
    where
      zero : Bool
      zero = picked (2 ∷ 8 ∷ 9 ∷ []) (file_rules [] 0 e)
