-- Each way out of a judgement.
use Prim.Native.Nat.{ℕ}
use mathlib.Core.Path.{◌≡◌, refl, ap, sym}
use mathlib.Core.Bool.{Bool, true, false}
use native.Mathlib.Omega.{arith}
use Rattle.codings.specs.Answers.{Outcome, outcome, judge, code, number, told, decoded}
use Rattle.std.specs.Prelude.{Result, Ok, Err}
use Rattle.codings.specs.declared.Refused.{Refused}
use Rattle.codings.specs.declared.Refused.TheVariants.{Length, Value}

abbrev pub answer_of : {A : Type 0} → Outcome A → ℕ
answer_of o = o.answer

abbrev pub value_of : {A : Type 0} → Outcome A → A
value_of o = o.value

module _ {A : Type 0} (fits valid : Bool) (left v : A) where
  pub wrong-length : fits ≡ false → outcome 5 left ≡ judge fits valid left v
  unfolding judge
  wrong-length f = rw f

  pub wrong_value : fits ≡ true → valid ≡ false → outcome 6 left ≡ judge fits valid left v
  unfolding judge
  wrong_value f e = rw (f, e)

  pub right : fits ≡ true → valid ≡ true → outcome 0 v ≡ judge fits valid left v
  unfolding judge
  right f e = rw (f, e)

module _ {A : Type 0} where
  -- where the answer is 0, both were right
  pub was_done : (fits valid : Bool) (left v : A) → (judge fits valid left v).answer ≡ 0 → (fits ≡ true) × (valid ≡ true)
  unfolding judge
  was_done true true left v e = (refl, refl)
  was_done true false left v e = absurd (omega arith)
  was_done false valid left v e = absurd (omega arith)

  pub was_five : (fits valid : Bool) (left v : A) → (judge fits valid left v).answer ≡ 5 → fits ≡ false
  unfolding judge
  was_five true true left v e = absurd (omega arith)
  was_five true false left v e = absurd (omega arith)
  was_five false valid left v e = refl

  pub was_six : (fits valid : Bool) (left v : A) → (judge fits valid left v).answer ≡ 6 → (fits ≡ true) × (valid ≡ false)
  unfolding judge
  was_six true true left v e = absurd (omega arith)
  was_six true false left v e = (refl, refl)
  was_six false valid left v e = absurd (omega arith)

  -- what holds of each refusal and of the value holds of the judgement
  pub either : (P : A → Type 0) (fits valid : Bool) (left v : A) → P left → (fits ≡ true → valid ≡ true → P v)
      → P (judge fits valid left v).value
  unfolding judge
  either P true true left v r p = p refl refl
  either P true false left v r p = r
  either P false valid left v r p = r

  -- a refusal leaves what is left
  pub refusal : (fits valid : Bool) (left v : A) → ¬ ((judge fits valid left v).answer ≡ 0) → (judge fits valid left v).value ≡ left
  unfolding judge
  refusal true true left v n = absurd (n refl)
  refusal true false left v n = refl
  refusal false valid left v n = refl

-- the paper's numbers tell the answers apart
pub refuses : (e : Refused) → ◌≡◌ {A = ℕ} 0 (code e) → ⊥
refuses Length z = omega arith
refuses Value z = omega arith

pub codes : (e f : Refused) → code e ≡ code f → e ≡ f
codes Length Length z = refl
codes Length Value z = absurd (omega arith)
codes Value Length z = absurd (omega arith)
codes Value Value z = refl

apart : (r s : Result (Unit {0}) Refused) → number r ≡ number s → r ≡ s
apart (Ok u) (Ok v) z = refl
apart (Ok u) (Err f) z = absurd (refuses f z)
apart (Err e) (Ok v) z = absurd (refuses e (sym z))
apart (Err e) (Err f) z = ap Err (codes e f z)

module _ {A : Type 0} where
  -- an outcome tells a decoder's answer and its value, and an encoder's answer and the bytes
  pub one_read : (left : A) (r s : Result A Refused) → decoded left r ≡ decoded left s → r ≡ s
  one_read left (Ok v) (Ok w) z = ap (λ (o : Outcome A). Ok o.value) z
  one_read left (Ok v) (Err f) z = absurd (refuses f (ap answer_of z))
  one_read left (Err e) (Ok w) z = absurd (refuses e (sym (ap answer_of z)))
  one_read left (Err e) (Err f) z = ap Err (codes e f (ap answer_of z))

  pub one_told : (r s : Result (Unit {0}) Refused) (x y : A) → told r x ≡ told s y → (r ≡ s) × (x ≡ y)
  one_told r s x y z = (apart r s (ap answer_of z), ap value_of z)
