-- What INCREASE takes for granted follows from the shelf's rules and from the command's form.
use Prim.Native.Nat.{ℕ}
use mathlib.Core.Path.{◌≡◌}
use mathlib.Core.List.{List, [], ◌∷◌}
use mathlib.Core.Bool.{true, false, ◌&&◌, ◌||◌}
use native.Mathlib.Omega.{arith}
use lib.Dec.{eqb}
use lib.ListN.{length}
use borrow.Author.Tests.{eqb-true, ne_eqb}
use Rattle.card.specs.Layout.{cyclic, counter}
use Rattle.card.specs.Shelf.{all}
use Rattle.card.specs.declared.Entry.{Entry}
use Rattle.card.proofs.Tests.{both}
use Rattle.commands_records.proofs.Granted.{second}
use Rattle.commands_increase.specs.Counts.{Counts}

-- a file that INCREASE takes
pub counting : (e : Entry) (added : List ℕ) → (eqb e.increase 0 || all (counter e ∷ cyclic e ∷ eqb e.width 3 ∷ [])) ≡ true → length added ≡ 3
    → Counts e added
unfolding all
counting e added rule three =
    record {
      round = λ c. ne_eqb e.structure 0 (λ z. omega (arith, eqb-true e.structure 3 (rules c).0, z));
      width = λ c. eqb-true _ _ (rules c).1;
      three = three;
    }
  where
    rules : counter e ≡ true → (cyclic e ≡ true) × (eqb e.width 3 ≡ true)
    rules c =
        let a : eqb e.increase 0 ≡ false = ne_eqb e.increase 0 (λ z. omega (arith, eqb-true e.increase 0x40 c, z)) in
        let b : (counter e ≡ true) × ((cyclic e && (eqb e.width 3 && true)) ≡ true) = both _ _ (second _ _ rule a) in
        let d : (cyclic e ≡ true) × ((eqb e.width 3 && true) ≡ true) = both _ _ b.1 in
        (d.0, (both _ _ d.1).0)
