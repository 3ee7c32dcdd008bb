-- Paper 01, "The session": "the current directory; the current EF or none; the record pointer, either undefined or a record number;
-- one presented mark each for CHV1 and CHV2; a waiting response of 0 to 22 bytes in an array of 22." Reset, which sessions fit an
-- image, and the few ways in which a command changes one.
use Rattle.std.specs.Prelude.{ℕ, ◌-◌, List, [], ◌++◌, Bool, true, false, ◌&&◌, ◌||◌, not, length, drop, replicate, eqb, leb, ltb, Option, Some, None}
use Rattle.card.specs.Bytes.{same}
use Rattle.card.specs.Layout.{index, file, transparent, records}
use Rattle.card.specs.declared.Entry.{Entry}
use Rattle.card.specs.declared.Session.{Session}

-- "Reset gives: master file, no EF, undefined, no marks, nothing waiting."
abbrev pub reset : Session
reset =
    record { directory = 0; current = None; pointer = None; chv1 = false; chv2 = false; waiting = replicate 22 0; count = 0 }

-- "a pointer stands only on a file with records and within them"
unfoldable pub pointed : Entry → Option ℕ → Bool
pointed e None = true
pointed e (Some n) = not (transparent e) && ltb 0 n && leb n (records e)

-- "the EF lies in it": in directory d; without an EF there is no pointer
unfoldable pub stands : List ℕ → ℕ → Option ℕ → Option ℕ → Bool
stands h d None None = true
stands h d None (Some n) = false
stands h d (Some f) p = ltb f (index h).files && (eqb (file h f).home d && pointed (file h f) p)

-- "the response count is at most 22 and the rest is zero"
unfoldable pub padded : List ℕ → ℕ → Bool
padded w n = leb n 22 && same (drop n w) (replicate (22 - n) 0)

-- "It fits an image when the directory exists, the EF lies in it, ..": by the image's head
unfoldable pub fits : List ℕ → Session → Bool
fits h s =
    ltb s.directory (index h).directories
    && stands h s.directory s.current s.pointer
    && padded s.waiting s.count

-- these bytes wait, and zeros fill the array
abbrev pub waits : List ℕ → Session → Session
waits r s =
    record {
      directory = s.directory;
      current = s.current;
      pointer = s.pointer;
      chv1 = s.chv1;
      chv2 = s.chv2;
      waiting = r ++ replicate (22 - length r) 0;
      count = length r;
    }

-- nothing waits
abbrev pub dropped : Session → Session
dropped s = waits [] s

-- the pointer moves
abbrev pub points : Option ℕ → Session → Session
points p s =
    record {
      directory = s.directory;
      current = s.current;
      pointer = p;
      chv1 = s.chv1;
      chv2 = s.chv2;
      waiting = s.waiting;
      count = s.count;
    }

-- another directory, EF and pointer
abbrev pub enters : ℕ → Option ℕ → Option ℕ → Session → Session
enters d c p s =
    record {
      directory = d;
      current = c;
      pointer = p;
      chv1 = s.chv1;
      chv2 = s.chv2;
      waiting = s.waiting;
      count = s.count;
    }

-- code c is presented
abbrev pub presents : ℕ → Session → Session
presents c s =
    record {
      directory = s.directory;
      current = s.current;
      pointer = s.pointer;
      chv1 = s.chv1 || eqb c 0;
      chv2 = s.chv2 || eqb c 1;
      waiting = s.waiting;
      count = s.count;
    }
