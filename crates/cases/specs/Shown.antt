-- What a decode shows: the answer, and the value's bytes, none on a refusal.
use Rattle.std.specs.Prelude.{ℕ, List, [], eqb}
use Rattle.cases.specs.Choice.{choose}
use Rattle.codings.specs.Answers.{Outcome, outcome, done}

-- a value as bytes, and no bytes on a refusal
unfoldable pub shown : {A : Type 0} → (A → List ℕ) → Outcome A → Outcome (List ℕ)
shown bytes o = choose (eqb o.answer 0) (done (bytes o.value)) (outcome o.answer [])

-- a refusal, whatever else was decided: 5 if the length is wrong, else 6
unfoldable pub refusal : ℕ → ℕ
refusal answer = choose (eqb answer 5) 5 6

-- a decode that takes no value: with one of some bytes it is refused
unfoldable pub alone : ℕ → Outcome (List ℕ) → Outcome (List ℕ)
alone given o = choose (eqb given 0) o (outcome (refusal o.answer) [])
