-- One of two, by a test.
use Rattle.std.specs.Prelude.{Bool, true, false}

-- a where the test holds, else b
unfoldable pub choose : {A : Type 0} → Bool → A → A → A
choose true a b = a
choose false a b = b
