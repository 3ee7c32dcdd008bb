-- Paper 01, "Host answers" and the order of refusals: what a command gives, and what is left on the card.
--
-- "Order of refusals: 6E 00 class; 6D 00 instruction; 6B 00 P1/P2; 67 XX fixed P3; host 4; 94 00 no EF; 94 08 structure;
-- 98 10 invalidation; 98 04 access; 67 with the record length; 94 02 range; 94 04 pattern or identifier; 98 50 overflow."
-- Class and host 4 stand in `Play`, up to the fixed P3 in `Forms` (`formed`), up to access in `Access` (`on_file`, `shared`), and the
-- rest in each command, as a list in this order. A command's effect stands only behind `unless`, where none of the list holds.
use Rattle.std.specs.Prelude.{ℕ, ◌/◌, ◌%◌, List, [], ◌∷◌, ◌++◌, Bool, true, false, eqb, length, drop}
use Rattle.card.specs.Sessions.{dropped}
use Rattle.card.specs.declared.Session.{Session}
use Rattle.card.specs.declared.Answer.{Answer}
use Rattle.card.specs.declared.Answer.TheVariants.{Played, NotAnImage, DoesNotFit, RoomTooSmall, WrongLength}

-- The host's answers, by the paper's numbers.
abbrev pub number : Answer → ℕ
number Played = 0
number NotAnImage = 1
number DoesNotFit = 2
number RoomTooSmall = 3
number WrongLength = 4

-- A condition and the status word that it gives.
pub record Refusal : Type 0 where
  pub holds : Bool
  pub word : ℕ

abbrev pub ◌says◌ : Bool → ℕ → Refusal
b says w = record { holds = b; word = w }

infix 68 ◌says◌
-- the word of the first refusal that holds, and 0 where none does
unfoldable pub first : List Refusal → ℕ
first [] = 0
first (r ∷ rs) = elim r.holds [ true ↦ r.word | false ↦ first rs ]

-- what stands where no refusal holds, and else what the first makes of its word
unfoldable pub unless : {A : Type 0} → List Refusal → (ℕ → A) → A → A
unless rs refuse a = elim (eqb (first rs) 0) [ true ↦ a | false ↦ refuse (first rs) ]

-- The response's data, its status word, and the session afterwards. The commands that leave the card as it is give no more.
pub record Reply : Type 0 where
  pub bytes : List ℕ
  pub word : ℕ
  pub session : Session

abbrev pub reply : List ℕ → ℕ → Session → Reply
reply r w s = record { bytes = r; word = w; session = s }

-- "the last two bytes the status word": the data, and the word, high byte first
abbrev pub response : Reply → List ℕ
response r = r.bytes ++ (r.word / 256 ∷ r.word % 256 ∷ [])

-- "A refusal's response is the two status bytes. It changes only the waiting response, which every played A0 command drops first."
abbrev pub refusal : Session → ℕ → Reply
refusal s w = reply [] w (dropped s)

-- "Room beyond the count is never touched": the room after a response.
abbrev pub laid : List ℕ → List ℕ → List ℕ
laid room r = r ++ drop (length r) room

-- A reply with the bytes of a code's entry afterwards: the commands on codes.
pub record Coded : Type 0 where
  pub given : Reply
  pub entry : List ℕ

abbrev pub coded : List ℕ → Reply → Coded
coded e r = record { given = r; entry = e }

-- A reply with the status of the current file afterwards: the commands on marks.
pub record Marked : Type 0 where
  pub given : Reply
  pub status : ℕ

abbrev pub marked : ℕ → Reply → Marked
marked n r = record { given = r; status = n }

-- A reply with the bytes of the current file and its top afterwards: the commands that write a file's bytes.
pub record Written : Type 0 where
  pub given : Reply
  pub contents : List ℕ
  pub top : ℕ

abbrev pub written : List ℕ → ℕ → Reply → Written
written b t r = record { given = r; contents = b; top = t }

-- A reply with the head and the bytes of the current file afterwards: any command.
pub record Effect : Type 0 where
  pub given : Reply
  pub head : List ℕ
  pub contents : List ℕ

abbrev pub effect : List ℕ → List ℕ → Reply → Effect
effect h b r = record { given = r; head = h; contents = b }
