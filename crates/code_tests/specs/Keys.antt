-- The two codes of an entry, as the code names them, and what a test of one goes by.
use Rattle.std.specs.Prelude.{ℕ, List, [], ◌∷◌, Bool, true, false, not, eqb}
use Rattle.card.specs.Answers.{Refusal, ◌says◌}
use Rattle.card.specs.Codes as card
use Rattle.card.specs.declared.Code.{Code}
use Rattle.code_tests.specs.declared.Key.{Key}
use Rattle.code_tests.specs.declared.Key.TheVariants.{Chv, Unblocking}

unfoldable pub keyed : Key → card.Key
keyed Chv = card.Key.chv
keyed Unblocking = card.Key.unblocking

-- where a code itself stands in the entry
abbrev pub value_at : card.Key → ℕ
value_at card.Key.chv = 4
value_at card.Key.unblocking = 12

-- why a code is not tested
unfoldable pub untestable : card.Key → Code → Bool → List Refusal
untestable key k contradicts =
    not (card.ready key k) says 0x9802 ∷ eqb (card.attempts_left key k) 0 says 0x9840 ∷ contradicts says 0x9808 ∷ []

-- the word of a wrong code, by the attempts that were left before it
unfoldable pub missed_word : ℕ → ℕ
missed_word left = elim (eqb left 1) [ true ↦ 0x9840 | false ↦ 0x9804 ]
