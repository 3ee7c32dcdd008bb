-- An MNC length that fits a file.
use Prim.Native.Nat.{ℕ, ◌≤◌, ◌<◌}
use mathlib.Core.Path.{◌≡◌, refl, ◌∙◌, sym, ap}
use mathlib.Core.List.{List}
use mathlib.Core.Bool.{Bool, true, false, ◌&&◌}
use native.Mathlib.Omega.{arith}
use borrow.Author.Tests.{eqb-false}
use lib.Dec.{eqb}
use lib.ListN.{length}
use Rattle.std.specs.Prelude.{Option, Some}
use Rattle.codings.specs.Admin.{is_mode, two_or_three, fitting}
use Rattle.codings.proofs.Laws.Admin.{small}

no : true ≡ false → ⊥
no x = let z : ◌≡◌ {A = ℕ} 0 1 = cc in omega arith

-- it stands in a fourth byte, and is small
pub fits : (m : ℕ) (l : List ℕ) (v : Option ℕ) (n : ℕ) → true ≡ is_mode m && fitting l v → 3 ≤ length l → v ≡ Some n → (4 ≤ length l) × (n < 4)
unfolding fitting
fits m l v n e h f = go (is_mode m) (eqb (length l) 3) refl (two_or_three n) refl (e ∙ ap (λ (x : Option ℕ). is_mode m && fitting l x) f)
  where
    go : (a b : Bool) → eqb (length l) 3 ≡ b → (c : Bool) → two_or_three n ≡ c
        → true ≡ a && (elim b [ true ↦ false | false ↦ true ] && c) → (4 ≤ length l) × (n < 4)
    go true false p true q x = (omega (arith, eqb-false _ _ p), small n true (sym q) refl)
    go true false p false q x = absurd (no x)
    go true true p c q x = absurd (no x)
    go false b p c q x = absurd (no x)
