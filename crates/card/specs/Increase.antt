-- Paper 01, "INCREASE: an increase-allowed file, else 94 08. Record 1 plus the 3 data bytes, written as in a cyclic update; 98 50 if above
-- FFFFFF. Waiting: new value, added value; 9F 06."
use Rattle.std.specs.Prelude.{ℕ, ◌+◌, ◌*◌, ◌/◌, ◌%◌, List, [], ◌∷◌, ◌++◌, ltb, Some}
use Rattle.card.specs.Bytes.{byte}
use Rattle.card.specs.Layout.{counter}
use Rattle.card.specs.Access.{shared}
use Rattle.card.specs.Records.{record_at, pushed}
use Rattle.card.specs.Sessions.{waits, points}
use Rattle.card.specs.Answers.{reply, refusal, Written, written, unless, ◌says◌}
use Rattle.card.specs.declared.Entry.{Entry}
use Rattle.card.specs.declared.Rights.{Rights}
use Rattle.card.specs.declared.Session.{Session}
use Rattle.card.specs.declared.Act.TheVariants.{Increase}

-- three bytes, high byte first, as a number and back
abbrev pub amount : List ℕ → ℕ → ℕ
amount l at = byte l at * 65536 + byte l (at + 1) * 256 + byte l (at + 2)

abbrev pub amount_bytes : ℕ → List ℕ
amount_bytes n = n / 65536 ∷ n / 256 % 256 ∷ n % 256 ∷ []

unfoldable pub increase_by : Rights → Entry → List ℕ → Session → List ℕ → Written
increase_by r e b s added =
    let sum = amount b (record_at e 1) + amount added 0 in
    unless (shared r e Increase (counter e) (ltb 0xffffff sum says 0x9850 ∷ [])) (λ w. written b e.top (refusal s w))
    (pushed e b (amount_bytes sum) (reply [] 0x9f06 (waits (amount_bytes sum ++ added) (points (Some 1) s))))
