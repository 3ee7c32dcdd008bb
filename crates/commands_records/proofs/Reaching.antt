-- Laws of records: where a stored place lies, and which record is chosen.
use Rattle.std.specs.Prelude.{ℕ, Option, Some, None}
use Prim.Native.Nat.{ℕ, suc, ◌+◌, ◌-◌, ◌*◌, ◌%◌, ◌≤◌, ◌<◌}
use mathlib.Core.Path.{◌≡◌, refl, ap, ◌∙◌}
use native.Mathlib.Omega.{arith}
use native.Mathlib.Nat.{mod-lt, mod-eq_of_lt, add-mod_right, mul-le-mul_right, suc-mul}
use Rattle.std.proofs.lemmas.Bool.Decides.{nat_tests}
use Rattle.card.specs.Layout.{records}
use Rattle.card.specs.Records.{chosen}
use Rattle.card.specs.declared.Entry.{Entry}
use Rattle.commands_records.specs.Stands.{Recorded}

-- what is left where n goes into x not at all, or once
pub below : (x n : ℕ) → x < n → x % n ≡ x
below x n lt = mod-eq_of_lt lt

pub once : (x n : ℕ) → n ≤ x → x < n + n → x % n ≡ x - n
once x n le lt =
    let y : ℕ = x - n in
    let is : x ≡ y + n = omega arith in
    ap (λ (z : ℕ). z % n) is ∙ add-mod_right y n ∙ below y n (omega arith)

-- a stored place of a record lies within the file
pub slot : (e : Entry) (x : ℕ) → Recorded e → x % records e * e.width + e.width ≤ e.size
slot e x h =
    let m : suc (x % records e) * e.width ≤ records e * e.width = mul-le-mul_right e.width (mod-lt x h.some) in
    omega (arith, m, suc-mul (x % records e) e.width, h.whole)

pub ruleset places = (below, once, slot)

-- the record chosen is within the file, or the one after the last
pub chosen_within : (e : Entry) (n mode : ℕ) (p : Option ℕ) → ((k : ℕ) → p ≡ Some k → k ≤ records e) → chosen e n mode p ≤ records e + 1
unfolding chosen
chosen_within e n mode None h = grind (arith, nat_tests)
chosen_within e n mode (Some k) h = let q : k ≤ records e = h k refl in grind (arith, nat_tests)
