-- Paper 01, "SELECT", "STATUS" and "GET RESPONSE".
use Rattle.std.specs.Prelude.{ℕ, ◌+◌, ◌/◌, ◌%◌, List, [], ◌∷◌, Bool, true, false, ◌&&◌, ◌||◌, not, take, eqb, ltb, Option, Some, None}
use Rattle.card.specs.Bytes.{find, how_many}
use Rattle.card.specs.Layout.{index, code, directory, file, initialised, unblock_initialised, disabled, cyclic}
use Rattle.card.specs.Sessions.{waits, enters, dropped}
use Rattle.card.specs.Answers.{Reply, reply, refusal}
use Rattle.card.specs.declared.Code.{Code}
use Rattle.card.specs.declared.Directory.{Directory}
use Rattle.card.specs.declared.Entry.{Entry}
use Rattle.card.specs.declared.Session.{Session}

abbrev pub b8 : Bool → ℕ
b8 true = 0x80
b8 false = 0

-- "status of CHV1, its unblock code, CHV2, its unblock code (b8 initialised, low half attempts left)"
abbrev pub code_status : Code → ℕ
code_status k = b8 (initialised k) + k.attempts

abbrev pub unblock_status : Code → ℕ
unblock_status k = b8 (unblock_initialised k) + k.unblocks

-- "child directories, child EFs": direct ones; the master file is nobody's child
unfoldable pub child : ℕ → ℕ → Directory → Bool
child d c e = not (eqb c 0) && eqb e.parent d

unfoldable pub children : List ℕ → ℕ → ℕ
children h d = how_many (index h).directories (λ c. child d c (directory h c))

unfoldable pub member : ℕ → Entry → Bool
member d e = eqb e.home d

unfoldable pub members : List ℕ → ℕ → ℕ
members h d = how_many (index h).files (λ f. member d (file h f))

-- "type 01 or 02": the master file, another directory
unfoldable pub directory_type : ℕ → ℕ
directory_type d = elim (eqb d 0) [ true ↦ 1 | false ↦ 2 ]

-- "Directory response, 22 bytes: 2 zeros, free memory, identifier, type, 5 zeros, 09, characteristics with b8 set if CHV1 is disabled,
-- child directories, child EFs, number of codes, zero," and the four statuses
unfoldable pub directory_response : List ℕ → ℕ → List ℕ
directory_response h d =
    let e = directory h d in
    0 ∷ 0 ∷ (e.memory / 256) ∷ (e.memory % 256) ∷ (e.identifier / 256) ∷ (e.identifier % 256)
    ∷ directory_type d ∷ 0 ∷ 0 ∷ 0 ∷ 0 ∷ 0 ∷ 9
    ∷ (b8 (disabled (code h 0)) + e.characteristics)
    ∷ children h d ∷ members h d ∷ e.codes ∷ 0
    ∷ code_status (code h 0) ∷ unblock_status (code h 0) ∷ code_status (code h 1) ∷ unblock_status (code h 1) ∷ []

-- "EF, 15 bytes: 2 zeros, size, identifier, 04, increase byte, access bytes, status, 02, structure, record length"
unfoldable pub file_response : Entry → List ℕ
file_response e =
    0 ∷ 0 ∷ (e.size / 256) ∷ (e.size % 256) ∷ (e.identifier / 256) ∷ (e.identifier % 256)
    ∷ 4 ∷ e.increase ∷ e.access1 ∷ e.access2 ∷ e.access3 ∷ e.status ∷ 2 ∷ e.structure ∷ e.width ∷ []

-- "SELECT reaches: the master file, the current directory, its parent, its children, and directories with the same parent": directory
-- d, of entry e, from the directory `here` whose parent is `up`
abbrev pub reached : ℕ → ℕ → ℕ → Directory → Bool
reached here up d e = eqb d 0 || eqb d here || eqb d up || eqb e.parent here || eqb e.parent up

-- whether an identifier selects directory d, and a file of the current directory
unfoldable pub leads : ℕ → ℕ → ℕ → ℕ → Directory → Bool
leads here up id d e = reached here up d e && eqb e.identifier id

unfoldable pub named : ℕ → ℕ → Entry → Bool
named here id e = eqb e.home here && eqb e.identifier id

-- "the pointer becomes undefined, or 1 on a cyclic file"
abbrev pub first_pointer : Entry → Option ℕ
first_pointer e = elim (cyclic e) [ true ↦ Some 1 | false ↦ None ]

-- the number of the directory that an identifier selects, and of the file; the section's count where there is none
unfoldable pub find_directory : List ℕ → ℕ → ℕ → ℕ
find_directory h here id = find (index h).directories (λ d. leads here (directory h here).parent id d (directory h d))

unfoldable pub find_file : List ℕ → ℕ → ℕ → ℕ
find_file h here id = find (index h).files (λ f. named here id (file h f))

-- "Otherwise 94 04. A directory answers 9F 16 and clears the EF; an EF answers 9F 0F."
unfoldable pub select : List ℕ → Session → ℕ → Reply
select h s id =
    let d = find_directory h s.directory id in
    let f = find_file h s.directory id in
    elim (ltb d (index h).directories) [
      | true ↦ reply [] 0x9f16 (waits (directory_response h d) (enters d None None s))
      | false ↦
          elim (ltb f (index h).files) [
            | true ↦ reply [] 0x9f0f (waits (file_response (file h f)) (enters s.directory (Some f) (first_pointer (file h f)) s))
            | false ↦ refusal s 0x9404
          ]
    ]

-- "STATUS gives the first P3 bytes for the current directory."
unfoldable pub tell_status : List ℕ → Session → ℕ → Reply
tell_status h s n = reply (take n (directory_response h s.directory)) 0x9000 (dropped s)

-- "GET RESPONSE: 6F 00 if nothing waits; 67 with the waiting length if P3 is 0 or larger; else the first P3 bytes, and nothing waits."
-- Its 67 leaves what waits.
unfoldable pub get_response : Session → ℕ → Reply
get_response s n =
    elim (eqb s.count 0) [
      | true ↦ refusal s 0x6f00
      | false ↦
          elim (eqb n 0 || ltb s.count n) [
            | true ↦ reply [] (0x6700 + s.count) s
            | false ↦ reply (take n s.waiting) 0x9000 (dropped s)
          ]
    ]
