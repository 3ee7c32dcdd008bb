-- Paper 01, "Commands": "Class A0. Letters S: sends P3 data bytes." One line a command: which P1 and P2 it takes, which P3 and what its
-- fixed 67 carries, and whether it sends data. "SIM toolkit, RUN GSM ALGORITHM and administrative commands: 6D 00."
use Rattle.std.specs.Prelude.{ℕ, ◌/◌, ◌%◌, List, [], ◌∷◌, Bool, true, false, ◌&&◌, ◌||◌, not, eqb, ltb}
use Rattle.card.specs.Answers.{Refusal, ◌says◌}
use Rattle.card.specs.declared.Instruction.{Instruction}
use Rattle.card.specs.declared.Instruction.TheVariants.{Select, Status, ReadBinary, UpdateBinary, ReadRecord, UpdateRecord, Seek, Increase, Verify, Change, Disable, Enable, Unblock, Invalidate, Rehabilitate, Sleep, GetResponse, Unknown}

-- the instructions by their codes
abbrev pub numbers : List (ℕ × Instruction)
numbers =
    (0xa4, Select) ∷ (0xf2, Status) ∷ (0xb0, ReadBinary) ∷ (0xd6, UpdateBinary) ∷ (0xb2, ReadRecord) ∷ (0xdc, UpdateRecord)
    ∷ (0xa2, Seek) ∷ (0x32, Increase) ∷ (0x20, Verify) ∷ (0x24, Change) ∷ (0x26, Disable) ∷ (0x28, Enable) ∷ (0x2c, Unblock)
    ∷ (0x04, Invalidate) ∷ (0x44, Rehabilitate) ∷ (0xfa, Sleep) ∷ (0xc0, GetResponse) ∷ []

abbrev pub among : List (ℕ × Instruction) → ℕ → Instruction
among [] n = Unknown
among (k ∷ ks) n = elim (eqb n k.0) [ true ↦ k.1 | false ↦ among ks n ]

unfoldable pub instruction_of : ℕ → Instruction
instruction_of n = among numbers n

-- Whether the card knows the command, which P1 and P2 are right, when a P3 is refused and by which word, and whether P3 data bytes are sent.
pub record Form : Type 0 where
  pub known : Bool
  pub p1p2 : ℕ → ℕ → Bool
  pub p3 : ℕ → Refusal
  pub sends : Bool

-- P1 and P2: these two; any, as for an offset; a record mode; a type and mode of SEEK; a code's number
abbrev pub both : ℕ → ℕ → ℕ → ℕ → Bool
both a b p q = eqb p a && eqb q b

abbrev pub any : ℕ → ℕ → Bool
any p q = true

abbrev pub mode : ℕ → ℕ → Bool
mode p q = ltb 1 q && ltb q 5

abbrev pub seek_mode : ℕ → ℕ → Bool
seek_mode p q = eqb p 0 && ltb (q / 16) 2 && ltb (q % 16) 4

abbrev pub code_number : ℕ → ℕ → ℕ → ℕ → Bool
code_number a b p q = eqb p 0 && (eqb q a || eqb q b)

-- "The fixed 67 XX carries the only length allowed, 16 (hex) for STATUS, and 00 for SEEK and for an UPDATE with P3 0."
abbrev pub exactly : ℕ → ℕ → ℕ → Refusal
exactly n w given = not (eqb given n) says w

abbrev pub up_to : ℕ → ℕ → ℕ → Refusal
up_to n w given = (eqb given 0 || ltb n given) says w

abbrev pub some : ℕ → Refusal
some given = eqb given 0 says 0x6700

abbrev pub free : ℕ → Refusal
free given = false says 0

abbrev pub sending : (ℕ → ℕ → Bool) → (ℕ → Refusal) → Form
sending p n = record { known = true; p1p2 = p; p3 = n; sends = true }

abbrev pub asking : (ℕ → ℕ → Bool) → (ℕ → Refusal) → Form
asking p n = record { known = true; p1p2 = p; p3 = n; sends = false }

abbrev pub refused : Form
refused = record { known = false; p1p2 = any; p3 = free; sends = false }

abbrev pub form_of : Instruction → Form
form_of Select = sending (both 0 0) (exactly 2 0x6702)
form_of Status = asking (both 0 0) (up_to 22 0x6716)
form_of ReadBinary = asking any free
form_of UpdateBinary = sending any some
form_of ReadRecord = asking mode free
form_of UpdateRecord = sending mode some
form_of Seek = sending seek_mode (up_to 16 0x6700)
form_of Increase = sending (both 0 0) (exactly 3 0x6703)
form_of Verify = sending (code_number 1 2) (exactly 8 0x6708)
form_of Change = sending (code_number 1 2) (exactly 16 0x6710)
form_of Disable = sending (both 0 1) (exactly 8 0x6708)
form_of Enable = sending (both 0 1) (exactly 8 0x6708)
form_of Unblock = sending (code_number 0 2) (exactly 16 0x6710)
form_of Invalidate = asking (both 0 0) (exactly 0 0x6700)
form_of Rehabilitate = asking (both 0 0) (exactly 0 0x6700)
form_of Sleep = asking (both 0 0) (exactly 0 0x6700)
form_of GetResponse = asking (both 0 0) free
form_of Unknown = refused

-- "6D 00 instruction; 6B 00 P1/P2; 67 XX fixed P3"
unfoldable pub formed : Instruction → ℕ → ℕ → ℕ → List Refusal
formed i p q n = not (form_of i).known says 0x6d00 ∷ not ((form_of i).p1p2 p q) says 0x6b00 ∷ (form_of i).p3 n ∷ []

-- how many bytes follow the fifth: "exactly P3 data bytes (S) or none (others)"
unfoldable pub sent : Instruction → ℕ → ℕ
sent i n = elim (form_of i).sends [ true ↦ n | false ↦ 0 ]
