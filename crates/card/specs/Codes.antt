-- Paper 01, "Codes": VERIFY, CHANGE, DISABLE, ENABLE and UNBLOCK, each on the 20 bytes of its code's entry. "In order: 98 02 not
-- initialised (UNBLOCK: either of the two); 98 40 no attempts left (UNBLOCK: its own counter); 98 08 for VERIFY, CHANGE, DISABLE of a
-- disabled CHV1 and ENABLE of an enabled one; then the value."
use Rattle.std.specs.Prelude.{ℕ, ◌+◌, ◌-◌, ◌%◌, List, [], ◌∷◌, Bool, true, false, ◌&&◌, not, take, drop, set, eqb}
use Rattle.card.specs.Bytes.{part, splice, same}
use Rattle.card.specs.Layout.{code_entry, initialised, unblock_initialised, disabled}
use Rattle.card.specs.Sessions.{dropped, presents}
use Rattle.card.specs.Answers.{reply, refusal, Coded, coded, unless, ◌says◌}
use Rattle.card.specs.declared.Code.{Code}
use Rattle.card.specs.declared.Session.{Session}

-- which of an entry's two values a command tests: the CHV, or its unblock code
pub data Key : Type 0 where
  chv unblocking : Key

abbrev pub value : Key → List ℕ → List ℕ
value chv e = part e 4 8
value unblocking e = part e 12 8

-- how many attempts are left, and where that stands in the entry
abbrev pub attempts_left : Key → Code → ℕ
attempts_left chv k = k.attempts
attempts_left unblocking k = k.unblocks

abbrev pub attempts_at : Key → ℕ
attempts_at chv = 1
attempts_at unblocking = 2

-- initialised: of an unblock code, either of the two
abbrev pub ready : Key → Code → Bool
ready chv k = initialised k
ready unblocking k = initialised k && unblock_initialised k

-- the entry with other flags, attempts 3, other unblock attempts and another CHV
abbrev pub renewed : List ℕ → ℕ → ℕ → List ℕ → List ℕ
renewed e flags unblocks new = splice e 0 12 (flags ∷ 3 ∷ unblocks ∷ 0 ∷ new)

-- "Wrong: its counter falls by one, 98 04, or 98 40 at zero. Right: attempts 3, presented, and the command's effect. A wrong value
-- withdraws no presented mark." Code number c is tested; `renewal` is its entry where the value is right.
unfoldable pub tested : List ℕ → Session → ℕ → Key → Bool → List ℕ → List ℕ → Coded
tested e s c key contradicts given renewal =
    let k = code_entry e 0 in
    unless
    (not (ready key k) says 0x9802 ∷ eqb (attempts_left key k) 0 says 0x9840 ∷ contradicts says 0x9808 ∷ [])
    (λ w. coded e (refusal s w))
    (elim (same (value key e) given) [
      | true ↦ coded renewal (reply [] 0x9000 (presents c (dropped s)))
      | false ↦
          coded (set e (attempts_at key) (attempts_left key k - 1))
          (refusal s (elim (eqb (attempts_left key k) 1) [ true ↦ 0x9840 | false ↦ 0x9804 ]))
    ])

unfoldable pub verify : List ℕ → Session → ℕ → List ℕ → Coded
verify e s c given =
    let k = code_entry e 0 in
    tested e s c chv (disabled k) given (renewed e k.flags k.unblocks (value chv e))

unfoldable pub change : List ℕ → Session → ℕ → List ℕ → Coded
change e s c given =
    let k = code_entry e 0 in
    tested e s c chv (disabled k) (take 8 given) (renewed e k.flags k.unblocks (drop 8 given))

unfoldable pub disable : List ℕ → Session → ℕ → List ℕ → Coded
disable e s c given =
    let k = code_entry e 0 in
    tested e s c chv (disabled k) given (renewed e (k.flags + 1) k.unblocks (value chv e))

unfoldable pub enable : List ℕ → Session → ℕ → List ℕ → Coded
enable e s c given =
    let k = code_entry e 0 in
    tested e s c chv (not (disabled k)) given (renewed e (k.flags - 1) k.unblocks (value chv e))

-- "UNBLOCK also sets the new CHV and unblock attempts 10, and enables CHV1 if that is its code."
unfoldable pub unblock : List ℕ → Session → ℕ → List ℕ → Coded
unblock e s c given =
    let k = code_entry e 0 in
    tested e s c unblocking false (take 8 given) (renewed e (k.flags - k.flags % 2) 10 (drop 8 given))
