-- Administrative data, 3 bytes or more: modes 00, 80, 01, 81, 02, 04; MNC length absent in 3 bytes, else low half of byte 4,
-- 2 or 3; other values 6. Encoding keeps the bits that were not decoded; an MNC length for 3 bytes, or none for more, is 6.
use Rattle.std.specs.Prelude.{ℕ, ◌+◌, ◌*◌, ◌/◌, ◌%◌, List, [], ◌∷◌, Bool, true, false, ◌&&◌, not, eqb, leb, length, get_or, set, Option, Some, None}
use Rattle.codings.specs.Answers.{Outcome, judge}
pub use Rattle.codings.specs.declared.admin.Setting.{Setting}

-- A value: the mode, and the MNC length, if it is not absent.
abbrev pub setting : ℕ → Option ℕ → Setting
setting m n = record { mode = m; mnc = n }

-- whether a number is one of these
unfoldable pub among : ℕ → List ℕ → Bool
among m [] = false
among m (x ∷ xs) = elim (eqb m x) [ true ↦ true | false ↦ among m xs ]

abbrev pub is_mode : ℕ → Bool
is_mode m = among m (0x00 ∷ 0x80 ∷ 0x01 ∷ 0x81 ∷ 0x02 ∷ 0x04 ∷ [])

abbrev pub two_or_three : ℕ → Bool
two_or_three n = among n (2 ∷ 3 ∷ [])

-- absent in 3 bytes, else the low half of byte 4
unfoldable pub mnc_in : List ℕ → Option ℕ
mnc_in l = elim (eqb (length l) 3) [ true ↦ None | false ↦ Some (get_or l 3 0 % 16) ]

-- absent in 3 bytes and only there, else 2 or 3
unfoldable pub fitting : List ℕ → Option ℕ → Bool
fitting l None = eqb (length l) 3
fitting l (Some n) = not (eqb (length l) 3) && two_or_three n

unfoldable pub decode : List ℕ → Outcome Setting
decode l =
    judge (leb 3 (length l)) (is_mode (get_or l 0 0) && fitting l (mnc_in l)) (setting 0 None) (setting (get_or l 0 0) (mnc_in l))

-- the mode in byte 1, the MNC length in the low half of byte 4; the high half and all else are kept
unfoldable pub changed : List ℕ → ℕ → Option ℕ → List ℕ
changed l m None = set l 0 m
changed l m (Some n) = set (set l 0 m) 3 (16 * (get_or l 3 0 / 16) + n)

unfoldable pub encode : Setting → List ℕ → Outcome (List ℕ)
encode v l = judge (leb 3 (length l)) (is_mode v.mode && fitting l v.mnc) l (changed l v.mode v.mnc)
