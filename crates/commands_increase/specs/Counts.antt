-- What INCREASE may take for granted beside `Stands`: what the shelf's rules say of an entry that it takes, and three bytes of data.
use Rattle.std.specs.Prelude.{ℕ, ◌+◌, ◌≡◌, List, [], ◌∷◌, true, false, length, ltb}
use Rattle.card.specs.Access.{shared}
use Rattle.card.specs.Answers.{Refusal, ◌says◌}
use Rattle.card.specs.Increase.{amount}
use Rattle.card.specs.Layout.{transparent, counter}
use Rattle.card.specs.Records.{record_at}
use Rattle.card.specs.declared.Act.TheVariants.{Increase}
use Rattle.card.specs.declared.Entry.{Entry}
use Rattle.card.specs.declared.Rights.{Rights}

-- A file that INCREASE takes is cyclic, with records of three bytes; three bytes are added.
pub record Counts (e : Entry) (added : List ℕ) : Type 0 where
  pub round : counter e ≡ true → transparent e ≡ false
  pub width : counter e ≡ true → e.width ≡ 3
  pub three : length added ≡ 3

-- the sum, and the refusals of INCREASE
abbrev pub sum : Entry → List ℕ → List ℕ → ℕ
sum e b added = amount b (record_at e 1) + amount added 0

abbrev pub refusals : Rights → Entry → List ℕ → List ℕ → List Refusal
refusals r e b added = shared r e Increase (counter e) (ltb 0xffffff (sum e b added) says 0x9850 ∷ [])
