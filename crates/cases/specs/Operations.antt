-- Operations: 0 decode, 1 encode.
use Rattle.std.specs.Prelude.{ℕ, eqb}
use Rattle.cases.specs.Choice.{choose}
use Rattle.cases.specs.declared.operations.Operation.{Operation}
use Rattle.cases.specs.declared.operations.Operation.TheVariants.{Decode, Encode, Unknown}

abbrev pub operation_of : ℕ → Operation
operation_of b = choose (eqb b 0) Decode (choose (eqb b 1) Encode Unknown)
