-- Paper 01, "The shelf form of an image": where each thing stands, and what an entry says. "Four sections in this order, each after
-- a two-byte count, high byte first everywhere": codes, directories, files, bytes. Numbers of entries count from 0.
use Rattle.std.specs.Prelude.{ℕ, zero, suc, ◌+◌, ◌*◌, ◌/◌, ◌%◌, List, Bool, eqb, take}
use Rattle.card.specs.Bytes.{byte, word, part}
use Rattle.card.specs.declared.Index.{Index}
use Rattle.card.specs.declared.Code.{Code}
use Rattle.card.specs.declared.Directory.{Directory}
use Rattle.card.specs.declared.Entry.{Entry}

-- The index says how many entries each section has and where the first of them stands: codes from 2 on, 20 bytes each; directories
-- from `tree` on, 8 bytes each; files from `table` on, 14 bytes each; the files' bytes from `store` on.
abbrev pub index_with : ℕ → ℕ → ℕ → Index
index_with c d f =
    record {
      codes = c;
      directories = d;
      tree = 4 + 20 * c;
      files = f;
      table = 6 + 20 * c + 8 * d;
      store = 8 + 20 * c + 8 * d + 14 * f;
    }

unfoldable pub index : List ℕ → Index
index l =
    let c = word l 0 in
    let d = word l (2 + 20 * c) in
    index_with c d (word l (4 + 20 * c + 8 * d))

-- "Codes, 20 bytes each: flags (b8 CHV initialised, b7 unblock code initialised, b1 CHV1 disabled), attempts left, unblock attempts
-- left, a zero, the 8-byte CHV, the 8-byte unblock code." Number 0 is CHV1 and number 1 CHV2.
abbrev pub code_at : ℕ → ℕ
code_at c = 2 + 20 * c

unfoldable pub code_entry : List ℕ → ℕ → Code
code_entry l at =
    record { flags = byte l at; attempts = byte l (at + 1); unblocks = byte l (at + 2); spare = byte l (at + 3) }

unfoldable pub code : List ℕ → ℕ → Code
code l c = code_entry l (code_at c)

abbrev pub initialised : Code → Bool
initialised k = eqb (k.flags / 128 % 2) 1

abbrev pub unblock_initialised : Code → Bool
unblock_initialised k = eqb (k.flags / 64 % 2) 1

abbrev pub disabled : Code → Bool
disabled k = eqb (k.flags % 2) 1

-- "Directories, 8 bytes each: identifier (2), parent's number, characteristics, free memory (2), number of codes, a zero."
abbrev pub directory_at : Index → ℕ → ℕ
directory_at i d = i.tree + 8 * d

unfoldable pub directory_entry : List ℕ → ℕ → Directory
directory_entry l at =
    record {
      identifier = word l at;
      parent = byte l (at + 2);
      characteristics = byte l (at + 3);
      memory = word l (at + 4);
      codes = byte l (at + 6);
      spare = byte l (at + 7);
    }

unfoldable pub directory : List ℕ → ℕ → Directory
directory l d = directory_entry l (directory_at (index l) d)

-- "Files, 14 bytes each: identifier (2), directory number, structure (00 transparent, 01 linear fixed, 03 cyclic), record length,
-- increase byte, access bytes (3), status, size (2), top, a zero." `home` is the directory's number and `width` the record length.
abbrev pub file_at : Index → ℕ → ℕ
file_at i f = i.table + 14 * f

unfoldable pub file_entry : List ℕ → ℕ → Entry
file_entry l at =
    record {
      identifier = word l at;
      home = byte l (at + 2);
      structure = byte l (at + 3);
      width = byte l (at + 4);
      increase = byte l (at + 5);
      access1 = byte l (at + 6);
      access2 = byte l (at + 7);
      access3 = byte l (at + 8);
      status = byte l (at + 9);
      size = word l (at + 10);
      top = byte l (at + 12);
      spare = byte l (at + 13);
    }

unfoldable pub file : List ℕ → ℕ → Entry
file l f = file_entry l (file_at (index l) f)

abbrev pub status_at : Index → ℕ → ℕ
status_at i f = file_at i f + 9

abbrev pub top_at : Index → ℕ → ℕ
top_at i f = file_at i f + 12

abbrev pub transparent : Entry → Bool
transparent e = eqb e.structure 0

abbrev pub linear : Entry → Bool
linear e = eqb e.structure 1

abbrev pub cyclic : Entry → Bool
cyclic e = eqb e.structure 3

-- increase is allowed
abbrev pub counter : Entry → Bool
counter e = eqb e.increase 0x40

-- how many records a file has; a transparent file, of record length 0, has none
abbrev pub records : Entry → ℕ
records e = e.size / e.width

-- "The files' bytes follow in file order": the sum of the sizes of the first f files, and where the bytes of file f start.
unfoldable pub sizes : List ℕ → ℕ → ℕ
sizes l zero = 0
sizes l (suc f) = sizes l f + (file l f).size

unfoldable pub start : List ℕ → ℕ → ℕ
start l f = (index l).store + sizes l f

-- all that stands before the files' bytes
unfoldable pub head : List ℕ → List ℕ
head l = take (index l).store l

-- the bytes of file f
unfoldable pub contents : List ℕ → ℕ → List ℕ
contents l f = part l (start l f) (file l f).size
