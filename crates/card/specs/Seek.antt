-- Paper 01, "SEEK (linear)": "P2 high half 0 or 1, low half 0 forward from the first, 1 backward from the last, 2 forward from after the
-- pointer, 3 backward from before it; while undefined, 2 and 3 act as 0 and 1."
use Rattle.std.specs.Prelude.{ℕ, ◌+◌, ◌-◌, ◌*◌, ◌/◌, ◌%◌, List, [], ◌∷◌, Bool, true, false, length, eqb, ltb, Option, Some, None}
use Rattle.card.specs.Bytes.{part, find, same}
use Rattle.card.specs.Layout.{records, linear}
use Rattle.card.specs.Access.{shared}
use Rattle.card.specs.Sessions.{waits, points, dropped}
use Rattle.card.specs.Answers.{Reply, reply, refusal, unless, ◌says◌}
use Rattle.card.specs.declared.Entry.{Entry}
use Rattle.card.specs.declared.Rights.{Rights}
use Rattle.card.specs.declared.Session.{Session}
use Rattle.card.specs.declared.Act.TheVariants.{Seek}

-- "A record matches if it starts with the pattern": record k of the bytes, records of m bytes
abbrev pub matches : List ℕ → ℕ → List ℕ → ℕ → Bool
matches b m pattern k = same (part b ((k - 1) * m) (length pattern)) pattern

-- the first record from one to n that matches, and 0 where none does
abbrev pub forward : List ℕ → ℕ → List ℕ → ℕ → ℕ → ℕ
forward b m pattern from n =
    let i = find (n + 1 - from) (λ i. matches b m pattern (from + i)) in
    elim (ltb i (n + 1 - from)) [ true ↦ from + i | false ↦ 0 ]

-- the last record from one down to 1 that matches, and 0 where none does
abbrev pub backward : List ℕ → ℕ → List ℕ → ℕ → ℕ
backward b m pattern from =
    let i = find from (λ i. matches b m pattern (from - i)) in
    elim (ltb i from) [ true ↦ from - i | false ↦ 0 ]

abbrev pub after : Option ℕ → ℕ
after None = 1
after (Some k) = k + 1

abbrev pub before : ℕ → Option ℕ → ℕ
before n None = n
before n (Some k) = k - 1

-- the record that a mode finds among n, and 0 where none matches
unfoldable pub sought : List ℕ → ℕ → ℕ → List ℕ → ℕ → Option ℕ → ℕ
sought b m n pattern mode p =
    elim (eqb mode 0) [
      | true ↦ forward b m pattern 1 n
      | false ↦
          elim (eqb mode 1) [
            | true ↦ backward b m pattern n
            | false ↦ elim (eqb mode 2) [ true ↦ forward b m pattern (after p) n | false ↦ backward b m pattern (before n p) ]
          ]
    ]

-- "The first match becomes the pointer: 90 00, or for type 1 9F 01 with the record number waiting. It is 94 04 exactly if no record in
-- the range matches." A pattern may not pass the record length.
unfoldable pub seek_record : Rights → Entry → List ℕ → Session → ℕ → List ℕ → Reply
seek_record r e b s mode pattern =
    let k = sought b e.width (records e) pattern (mode % 16) s.pointer in
    unless
    (shared r e Seek (linear e) (ltb e.width (length pattern) says (0x6700 + e.width) ∷ eqb k 0 says 0x9404 ∷ []))
    (refusal s)
    (elim (eqb (mode / 16) 0) [
      | true ↦ reply [] 0x9000 (points (Some k) (dropped s))
      | false ↦ reply [] 0x9f01 (waits (k ∷ []) (points (Some k) s))
    ])
