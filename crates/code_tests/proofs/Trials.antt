-- Where nothing refuses the test of a code, an attempt is left and nothing contradicts.
use mathlib.Core.Path.{◌≡◌, refl}
use mathlib.Core.List.{[], ◌∷◌}
use mathlib.Core.Bool.{Bool, true, false}
use native.Mathlib.Omega.{arith}
use borrow.Author.Tests.{eqb-false}
use Rattle.card.specs.Answers.{first, ◌says◌}
use Rattle.card.specs.Codes.{Key, attempts_left}
use Rattle.card.specs.declared.Code.{Code}
use Rattle.code_tests.specs.Keys.{untestable}

clear : (a b c : Bool) → 0 ≡ first (a says 0x9802 ∷ b says 0x9840 ∷ c says 0x9808 ∷ []) → (b ≡ false) × (c ≡ false)
unfolding first
clear true b c e = absurd (omega (arith, e))
clear false true c e = absurd (omega (arith, e))
clear false false true e = absurd (omega (arith, e))
clear false false false e = (refl, refl)

pub some : (key : Key) (k : Code) (x : Bool) → 0 ≡ first (untestable key k x) → (attempts_left key k ≡ 0 → ⊥) × (x ≡ false)
unfolding untestable
some key k x e = let h = clear _ _ x e in (eqb-false _ _ h.0, h.1)
