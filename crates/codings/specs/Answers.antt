-- Host answers of a decoder or an encoder, in this order: 5, a wrong file length; 6, a value outside the coding; 0 otherwise.
-- On 5 and 6 nothing is written.
use Rattle.std.specs.Prelude.{ℕ, Bool, true, false, Result, Ok, Err}
use Rattle.codings.specs.declared.Refused.{Refused}
use Rattle.codings.specs.declared.Refused.TheVariants.{Length, Value}

-- the paper's number of each refusal, and of each answer
abbrev pub code : Refused → ℕ
code Length = 5
code Value = 6

abbrev pub number : {A : Type 0} → Result A Refused → ℕ
number (Ok v) = 0
number (Err e) = code e

-- An answer by its number, and what goes with it: a decoder's value, or the lent bytes after an encoder.
pub record Outcome (A : Type 0) : Type 0 where
  pub answer : ℕ
  pub value : A

abbrev pub outcome : {A : Type 0} → ℕ → A → Outcome A
outcome a v = record { answer = a; value = v }

abbrev pub done : {A : Type 0} → A → Outcome A
done v = outcome 0 v

-- The length is judged first, then the value. With a refusal goes what is left: no value, or the bytes as they stood.
unfoldable pub judge : {A : Type 0} → Bool → Bool → A → A → Outcome A
judge fits valid left v =
    elim fits [ false ↦ outcome 5 left | true ↦ elim valid [ false ↦ outcome 6 left | true ↦ outcome 0 v ] ]

-- what an encoder's code gave, by the paper's number, with the lent bytes
abbrev pub told : {A : Type 0} → Result (Unit {0}) Refused → A → Outcome A
told r v = outcome (number r) v

-- what a decoder's code gave, by the paper's number, with its value or with what is left
abbrev pub decoded : {A : Type 0} → A → Result A Refused → Outcome A
decoded left (Ok v) = done v
decoded left (Err e) = outcome (code e) left
