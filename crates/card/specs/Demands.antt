-- What was asked of the player, as statements about the definition. Each is a type with a name, and its proof in proofs/ has that name
-- with a small letter. The player's functions are proved to do what the definition says, so what holds of the definition holds of them.
use Rattle.std.specs.Prelude.{ℕ, ◌+◌, ◌-◌, ◌/◌, ◌<◌, ◌≤◌, ◌≡◌, List, [], ◌∷◌, Bool, true, false, ◌||◌, ◌⊎◌, eqb, length, set, Some, None}
use Rattle.card.specs.Bytes.{byte, word, part}
use Rattle.card.specs.Layout.{index, code_at, directory, file, start, head, counter}
use Rattle.card.specs.Shelf.{is_image}
use Rattle.card.specs.Sessions.{reset, fits, dropped}
use Rattle.card.specs.Access.{rights, allowed}
use Rattle.card.specs.Select.{leads, named, select}
use Rattle.card.specs.Codes.{Key, chv, unblocking, value, attempts_at}
use Rattle.card.specs.Forms.{instruction_of}
use Rattle.card.specs.Play.{Outcome, play, run}
use Rattle.card.specs.declared.Instruction.{Instruction}
use Rattle.card.specs.declared.Instruction.TheVariants.{Verify, Change, Disable, Enable, Unblock}
use Rattle.card.specs.declared.Session.{Session}
use Rattle.card.specs.declared.Act.TheVariants.{Read, Increase}

-- 1. ALWAYS AN ANSWER. That every command gets an answer, whatever bytes are handed over, is proved by the language itself and not here:
-- no public function of the player asks anything of its caller (it has no `requires`), none fails and every one ends; see the crate
-- `player`. What the answer can be stands here: the host's answer is 0 to 4, and on 0 the response holds at least the status word.
pub record Answered (o : Outcome) : Type 0 where
  pub host : o.host ≤ 4
  pub response : o.host ≡ 0 → 2 ≤ length o.response

abbrev pub AlwaysAnswered : Type 0
AlwaysAnswered = (l : List ℕ) (s : Session) (c : List ℕ) (room : ℕ) → Answered (play l s c room)

-- 2. REFUSALS KEEP. The status word is the last two bytes of a response. 90 00 and 9F XX say that the command was carried out; every
-- other word refuses it.
abbrev pub status_word : List ℕ → ℕ
status_word r = word r (length r - 2)

abbrev pub carried_out : ℕ → Bool
carried_out w = eqb w 0x9000 || eqb (w / 256) 0x9f

-- The five commands that test a code: by the instruction and P2, whether a CHV or an unblock code, and of which entry (0 is CHV1's).
pub data Tries : Instruction → ℕ → Key → ℕ → Type 0 where
  verifies : (q : ℕ) → Tries Verify q chv (q - 1)
  changes : (q : ℕ) → Tries Change q chv (q - 1)
  disables : (q : ℕ) → Tries Disable q chv 0
  enables : (q : ℕ) → Tries Enable q chv 0
  unblocks : (q : ℕ) → Tries Unblock q unblocking (q / 2)

-- A wrong code was sent: the eight bytes after the fifth are not the code that the command tests. One byte of the image, this code's own
-- counter, is one less than it was, and so many attempts are `left`; the word is 98 40 where none is left, and else 98 04.
pub record Lowered (l c : List ℕ) (o : Outcome) : Type 0 where
  pub key : Key
  pub number : ℕ
  pub left : ℕ
  pub tries : Tries (instruction_of (byte c 1)) (byte c 3) key number
  pub exists : number < 2
  pub wrong : value key (part l (code_at number) 20) ≡ part c 5 8 → ⊥
  pub before : byte l (code_at number + attempts_at key) ≡ left + 1
  pub image : o.image ≡ set l (code_at number + attempts_at key) left
  pub tells : status_word o.response ≡ elim (eqb left 0) [ true ↦ 0x9840 | false ↦ 0x9804 ]

-- A refusal by the card: the response is the status word alone; the session is as it was, with its directory, EF, pointer and presented
-- marks, or as it was with nothing waiting; the image is as it was in every byte, or a wrong code has lowered its own counter.
pub record Refused (l : List ℕ) (s : Session) (c : List ℕ) (o : Outcome) : Type 0 where
  pub brief : length o.response ≡ 2
  pub session : (o.session ≡ s) ⊎ (o.session ≡ dropped s)
  pub image : (o.image ≡ l) ⊎ Lowered l c o

-- Where the host's answer is not 0, there is no response, and image and session are as they were. Where the status word is neither 90 00
-- nor 9F XX, the command was refused as above. Whatever the bytes, the session, the command and the room.
pub record Untouched (l : List ℕ) (s : Session) (c : List ℕ) (o : Outcome) : Type 0 where
  pub declined : (o.host ≡ 0 → ⊥) → (o.response ≡ []) × (o.image ≡ l) × (o.session ≡ s)
  pub refused : o.host ≡ 0 → carried_out (status_word o.response) ≡ false → Refused l s c o

abbrev pub RefusalsKeep : Type 0
RefusalsKeep = (l : List ℕ) (s : Session) (c : List ℕ) (room : ℕ) → Untouched l s c (play l s c room)

-- 3. IMAGES STAY IMAGES, and sessions go on fitting. After a command on an image with a session that fits it, the image is an image, the
-- session fits it, and the host's answer was neither 1 (not an image) nor 2 (the session does not fit).
pub record Sound (o : Outcome) : Type 0 where
  pub image : is_image o.image ≡ true
  pub session : fits (head o.image) o.session ≡ true
  pub not1 : o.host ≡ 1 → ⊥
  pub not2 : o.host ≡ 2 → ⊥

abbrev pub StaysImage : Type 0
StaysImage =
    (l : List ℕ) (s : Session) (c : List ℕ) (room : ℕ) → is_image l ≡ true → fits (head l) s ≡ true → Sound (play l s c room)

-- So a run from a reset never meets 1 or 2: a session just reset fits every image, and the same holds of each outcome of the run. A run
-- is of commands, each with the room for its response.
abbrev pub Commands : Type 0
Commands = List (List ℕ × ℕ)

unfoldable pub Each : (Outcome → Type 0) → List Outcome → Type 0
Each P [] = Unit
Each P (o ∷ os) = P o × Each P os

abbrev pub ResetFits : Type 0
ResetFits = (l : List ℕ) → is_image l ≡ true → fits (head l) reset ≡ true

abbrev pub StaysThrough : Type 0
StaysThrough = (l : List ℕ) (cs : Commands) → is_image l ≡ true → Each Sound (run l reset cs)

-- 4. HIDDEN BYTES STAY HIDDEN. A place lies inside the bytes of one of the files that X names by their numbers.
pub record Inside (X : ℕ → Bool) (l : List ℕ) (k : ℕ) : Type 0 where
  pub which : ℕ
  pub exists : which < (index l).files
  pub named : X which ≡ true
  pub from : start l which ≤ k
  pub to : k < start l which + (file l which).size

-- Two images are alike but for those files: they are as long, and at each place they have the same byte, or the place lies inside.
pub record Apart (X : ℕ → Bool) (l l' : List ℕ) : Type 0 where
  pub long : length l ≡ length l'
  pub bytes : (k : ℕ) → (byte l k ≡ byte l' k) ⊎ Inside X l k

-- The READ condition of a file is not fulfilled, nor, if it is a counter with increase allowed, its INCREASE condition.
pub record Closed (l : List ℕ) (s : Session) (f : ℕ) : Type 0 where
  pub unread : allowed (rights (head l) s) (file l f) Read ≡ false
  pub uncounted : (counter (file l f) ≡ false) ⊎ (allowed (rights (head l) s) (file l f) Increase ≡ false)

-- `Shut`: so it is with every file that X names. `ShutThrough`: so it is at each command of a run, in the state before that command.
abbrev pub Shut : (ℕ → Bool) → List ℕ → Session → Type 0
Shut X l s = (f : ℕ) → f < (index l).files → X f ≡ true → Closed l s f

unfoldable pub ShutThrough : (ℕ → Bool) → List ℕ → Session → Commands → Type 0
ShutThrough X l s [] = Unit
ShutThrough X l s (c ∷ cs) =
    Shut X l s × ShutThrough X (play l s c.0 c.1).image (play l s c.0 c.1).session cs

-- Two outcomes are the same but for hidden bytes: the same host's answer, response and session, and images that differ only inside those
-- files. `Throughout`: so it is with two runs, command by command.
pub record Indistinct (X : ℕ → Bool) (o o' : Outcome) : Type 0 where
  pub host : o.host ≡ o'.host
  pub response : o.response ≡ o'.response
  pub session : o.session ≡ o'.session
  pub image : Apart X o.image o'.image

unfoldable pub Throughout : (ℕ → Bool) → List Outcome → List Outcome → Type 0
Throughout X [] [] = Unit
Throughout X [] (o' ∷ os') = ⊥
Throughout X (o ∷ os) [] = ⊥
Throughout X (o ∷ os) (o' ∷ os') = Indistinct X o o' × Throughout X os os'

-- Take two images alike but for the bytes of some files, and run the same commands, with the same rooms, on both from a reset. If at each
-- command of the run on the first those files are closed, then every answer, response and session is equal on both, and the images still
-- differ only inside those files (`Hidden`). The same holds from any session (`HiddenRun`), and of one command (`HiddenStep`).
abbrev pub HiddenStep : Type 0
HiddenStep =
    (X : ℕ → Bool) (l l' : List ℕ) (s : Session) (c : List ℕ) (room : ℕ) → Apart X l l' → Shut X l s
    → Indistinct X (play l s c room) (play l' s c room)

abbrev pub HiddenRun : Type 0
HiddenRun =
    (X : ℕ → Bool) (l l' : List ℕ) (s : Session) (cs : Commands) → Apart X l l' → ShutThrough X l s cs
    → Throughout X (run l s cs) (run l' s cs)

abbrev pub Hidden : Type 0
Hidden =
    (X : ℕ → Bool) (l l' : List ℕ) (cs : Commands) → Apart X l l' → ShutThrough X l reset cs
    → Throughout X (run l reset cs) (run l' reset cs)

-- 5. ONE ANSWER TO A SELECT. What an identifier may select from a directory: a directory that SELECT reaches from there, or a file that
-- lies there, each by its number.
pub data Target : Type 0 where
  to_directory to_file : ℕ → Target

abbrev pub Selects : List ℕ → ℕ → ℕ → Target → Type 0
Selects h here id (to_directory d) =
    (d < (index h).directories) × (leads here (directory h here).parent id d (directory h d) ≡ true)
Selects h here id (to_file f) = (f < (index h).files) × (named here id (file h f) ≡ true)

-- In an image at most one entry that is reached has the identifier, so that no order of search can matter; and SELECT enters that one.
abbrev pub OneAnswer : Type 0
OneAnswer =
    (l : List ℕ) (here id : ℕ) (t t' : Target) → is_image l ≡ true → here < (index (head l)).directories
    → Selects (head l) here id t
    → Selects (head l) here id t'
    → t ≡ t'

abbrev pub Entered : Target → Session → Type 0
Entered (to_directory d) s = (s.directory ≡ d) × (s.current ≡ None)
Entered (to_file f) s = s.current ≡ Some f

abbrev pub SelectEnters : Type 0
SelectEnters =
    (l : List ℕ) (s : Session) (id : ℕ) (t : Target) → is_image l ≡ true → fits (head l) s ≡ true
    → Selects (head l) s.directory id t
    → Entered t (select (head l) s id).session
