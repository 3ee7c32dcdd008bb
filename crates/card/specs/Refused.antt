-- The code's refusals: each is a status word of the definition's lists, and a test passes where none of its list holds.
use Rattle.std.specs.Prelude.{ℕ, ◌+◌, Result, Ok, Err}
use Rattle.card.specs.declared.Refused.{Refused}
use Rattle.card.specs.declared.Refused.TheVariants.{NoFile, OutOfRange, NotFound, Unsuited, NotInitialised, NotAllowed, Contradicted, Invalidated, Blocked, Overflow, Length, Parameters, Instruction, NothingWaits}

-- the status word of each: no EF is selected, a range or a record that is not there, no such pattern or identifier, a file that the command
-- does not suit, a code that is not initialised, an access condition that is not fulfilled or a wrong code, a contradiction with a code's
-- state, and with invalidation, a blocked code, a sum that is too large, the length that is right, P1 and P2, the instruction, and a
-- GET RESPONSE with nothing to tell
abbrev pub word_of : Refused → ℕ
word_of NoFile = 0x9400
word_of OutOfRange = 0x9402
word_of NotFound = 0x9404
word_of Unsuited = 0x9408
word_of NotInitialised = 0x9802
word_of NotAllowed = 0x9804
word_of Contradicted = 0x9808
word_of Invalidated = 0x9810
word_of Blocked = 0x9840
word_of Overflow = 0x9850
word_of (Length n) = 0x6700 + n
word_of Parameters = 0x6b00
word_of Instruction = 0x6d00
word_of NothingWaits = 0x6f00

-- the word of a test: of its refusal, and 0 where it passes, as `first` of a list gives it
abbrev pub word_in : {A : Type 0} → Result A Refused → ℕ
word_in (Ok a) = 0
word_in (Err r) = word_of r
