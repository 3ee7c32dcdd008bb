-- What tells an entry from the others of its kind. The first byte of its identifier is fixed by where it stands, so where it keeps its
-- own rules it is known by the number of its directory, below 32, and the low byte of its identifier.
use Rattle.std.specs.Prelude.{ℕ, ◌+◌, ◌*◌, ◌%◌, List, [], ◌∷◌, Bool, true, false, ◌&&◌, eqb, ltb, get_or, set}
use Rattle.card.specs.Shelf.{all, directory_rules, file_rules}
use Rattle.card.specs.declared.Directory.{Directory}
use Rattle.card.specs.declared.Entry.{Entry}

-- all rules of a list hold but for rule k, which is not asked
abbrev pub without : ℕ → List Bool → Bool
without k bs = all (set bs k true)

-- the rules of an entry but for twins: a file's speak of its number only there
unfoldable pub own_directory : List ℕ → ℕ → Directory → Bool
own_directory l d e = without 6 (directory_rules l d e)

unfoldable pub own_file : List ℕ → Entry → Bool
own_file l e = without 4 (file_rules l 0 e)

-- the rules of a list with these numbers hold
abbrev pub picked : List ℕ → List Bool → Bool
picked [] bs = true
picked (k ∷ ks) bs = get_or bs k true && picked ks bs

-- Of a file's rules: those by which something is 0, with the number of its directory that an image can have, and those that speak of its
-- structure. No other entry, and nothing of the image, counts there.
unfoldable pub zero_rules : Entry → Bool
zero_rules e = ltb e.home 32 && picked (2 ∷ 8 ∷ 9 ∷ []) (file_rules [] 0 e)

unfoldable pub structure_rules : Entry → Bool
structure_rules e = picked (1 ∷ 5 ∷ 6 ∷ 7 ∷ 10 ∷ []) (file_rules [] 0 e)

-- The master file stands in no directory. Number 31, which is too high for a parent, stands for that: 7936 is 256 * 31.
unfoldable pub directory_key : ℕ → Directory → ℕ
directory_key d e = elim (eqb d 0) [ true ↦ 7936 | false ↦ e.identifier % 256 + 256 * e.parent ]

unfoldable pub file_key : Entry → ℕ
file_key e = e.identifier % 256 + 256 * e.home
