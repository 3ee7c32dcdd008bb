-- What the code's rules of P1, P2 and P3 mean.
use Rattle.std.specs.Prelude.{ℕ, ◌+◌, Bool, true, Option, Some, None}
use Rattle.card.specs.Answers.{Refusal}
use Rattle.card.specs.Forms.{Form, both, any, mode, seek_mode, code_number, exactly, up_to, some, free, refused}
use Rattle.shapes.specs.declared.Pair.{Pair}
use Rattle.shapes.specs.declared.Pair.TheVariants.{Both, Any, Mode, SeekMode, CodeNumber}
use Rattle.shapes.specs.declared.Count.{Count}
use Rattle.shapes.specs.declared.Count.TheVariants.{Exactly, UpTo, NotZero, Free}
use Rattle.shapes.specs.declared.Shape.{Shape}

abbrev pub pairs : Pair → ℕ → ℕ → Bool
pairs (Both a b) = both a b
pairs Any = any
pairs Mode = mode
pairs SeekMode = seek_mode
pairs (CodeNumber a b) = code_number a b

-- the word for a wrong P3 is 67 and a length
abbrev pub counts : Count → ℕ → Refusal
counts (Exactly n) = exactly n (0x6700 + n)
counts (UpTo n told) = up_to n (0x6700 + told)
counts NotZero = some
counts Free = free

-- no shape: the card doesn't know the command
abbrev pub meaning : Option Shape → Form
meaning None = refused
meaning (Some f) = record { known = true; p1p2 = pairs f.pair; p3 = counts f.count; sends = f.sends }
