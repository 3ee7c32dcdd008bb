-- Paper 01, "The shelf form of an image": which lists of bytes are images. Section by section, in each entry by entry, in each rule by
-- rule, in the paper's order. A rule that needs another entry looks only at entries before its own.
use Rattle.std.specs.Prelude.{ℕ, ◌+◌, ◌-◌, ◌/◌, ◌%◌, List, [], ◌∷◌, Bool, true, false, ◌&&◌, ◌||◌, not, length, eqb, leb, ltb}
use Rattle.card.specs.Bytes.{word, every, none}
use Rattle.card.specs.Layout.{index, code, directory, file, transparent, linear, cyclic, counter, records, sizes}
use Rattle.card.specs.declared.Code.{Code}
use Rattle.card.specs.declared.Directory.{Directory}
use Rattle.card.specs.declared.Entry.{Entry}

-- all rules of a list hold
unfoldable pub all : List Bool → Bool
all [] = true
all (b ∷ bs) = b && all bs

-- Code c. "CHV2's b1 and all other bits 0": of b1 to b6 only b1 may be set, and only in number 0. "Attempts left 0 to 3, unblock
-- attempts left 0 to 10, a zero."
unfoldable pub code_rules : ℕ → Code → List Bool
code_rules c k = leb (k.flags % 64) (1 - c) ∷ leb k.attempts 3 ∷ leb k.unblocks 10 ∷ eqb k.spare 0 ∷ []

-- "Identifiers start 7F under the master file and 5F under a 7F directory; a 5F directory has no directory below": by the first
-- bytes of the parent's identifier and of the child's
unfoldable pub below : ℕ → ℕ → Bool
below parent child = (eqb parent 0x3f && eqb child 0x7f) || (eqb parent 0x7f && eqb child 0x5f)

-- "Identifiers start 2F, 6F or 4F in the master file, a 7F or a 5F directory": by the first byte of the directory's identifier
unfoldable pub within : ℕ → ℕ
within high = elim (eqb high 0x3f) [ true ↦ 0x2f | false ↦ elim (eqb high 0x7f) [ true ↦ 0x6f | false ↦ 0x4f ] ]

-- "No two entries of one parent share an identifier": directories, and below files
unfoldable pub twins : Directory → Directory → Bool
twins e e' = eqb e.parent e'.parent && eqb e.identifier e'.identifier

-- Directory d. "Characteristics (b8 zero)", "a zero". "Number 0 is the master file 3F00, parent 0, nobody's child. Every other has a
-- parent of lower number."
unfoldable pub directory_rules : List ℕ → ℕ → Directory → List Bool
directory_rules l d e =
    let root = eqb d 0 in
    ltb e.characteristics 128
    ∷ eqb e.spare 0
    ∷ (not root || eqb e.identifier 0x3f00)
    ∷ (not root || eqb e.parent 0)
    ∷ (root || ltb e.parent d)
    ∷ (root || below ((directory l e.parent).identifier / 256) (e.identifier / 256))
    ∷ none d (λ c. twins (directory l c) e)
    ∷ []

unfoldable pub twin_files : Entry → Entry → Bool
twin_files e e' = eqb e.home e'.home && eqb e.identifier e'.identifier

-- "Others have record length 1 to 255 and 1 to 254 whole records."
unfoldable pub records_rule : Entry → Bool
records_rule e = all (ltb 0 e.width ∷ eqb (e.size % e.width) 0 ∷ ltb 0 (records e) ∷ ltb (records e) 255 ∷ [])

-- "Top is below the number of records on a cyclic file. Elsewhere top is 0."
unfoldable pub top_rule : Entry → Bool
top_rule e = elim (cyclic e) [ true ↦ ltb e.top (records e) | false ↦ eqb e.top 0 ]

-- File f. Its directory exists, its structure is one of three, "a zero", its identifier and that no earlier file has it. "A transparent
-- file has size 1 or more and record length 0." "The increase byte is 00, or 40 on a cyclic file of record length 3. Only status b1 and
-- b3 may be set. The low half of the second access byte is 0."
unfoldable pub file_rules : List ℕ → ℕ → Entry → List Bool
file_rules l f e =
    ltb e.home (index l).directories
    ∷ (transparent e || linear e || cyclic e)
    ∷ eqb e.spare 0
    ∷ eqb (e.identifier / 256) (within ((directory l e.home).identifier / 256))
    ∷ none f (λ g. twin_files (file l g) e)
    ∷ (not (transparent e) || all (ltb 0 e.size ∷ eqb e.width 0 ∷ []))
    ∷ (transparent e || records_rule e)
    ∷ (eqb e.increase 0 || all (counter e ∷ cyclic e ∷ eqb e.width 3 ∷ []))
    ∷ (leb (e.status % 4) 1 && ltb e.status 8)
    ∷ eqb (e.access2 % 16) 0
    ∷ top_rule e
    ∷ []

-- The sections. Of each: its count, that it is whole, and its entries.
-- "Codes: count 2."
unfoldable pub codes_sound : List ℕ → Bool
codes_sound l =
    all (eqb (index l).codes 2 ∷ leb ((index l).tree - 2) (length l) ∷ every 2 (λ c. all (code_rules c (code l c))) ∷ [])

-- "Directories: count 1 to 32."
unfoldable pub directories_sound : List ℕ → Bool
directories_sound l =
    all
    (ltb 0 (index l).directories
    ∷ leb (index l).directories 32
    ∷ leb ((index l).table - 2) (length l)
    ∷ every (index l).directories (λ d. all (directory_rules l d (directory l d)))
    ∷ [])

-- "Files: count 0 to 200."
unfoldable pub files_sound : List ℕ → Bool
files_sound l =
    all
    (leb (index l).files 200
    ∷ leb ((index l).store - 2) (length l)
    ∷ every (index l).files (λ f. all (file_rules l f (file l f)))
    ∷ [])

-- "Bytes: the count equals the sum of the sizes, at most 24,576", and "nothing after the last".
unfoldable pub bytes_sound : List ℕ → Bool
bytes_sound l =
    let n = sizes l (index l).files in
    all
    (eqb (word l ((index l).store - 2)) n
    ∷ leb n 24576
    ∷ leb ((index l).store + n) (length l)
    ∷ leb (length l) ((index l).store + n)
    ∷ [])

-- a list of bytes of the shelf form
unfoldable pub is_image : List ℕ → Bool
is_image l = all (codes_sound l ∷ directories_sound l ∷ files_sound l ∷ bytes_sound l ∷ [])
