-- The table of each byte's two digits, checked entry by entry.
use Rattle.std.proofs.Common.{◌≡◌, ℕ, zero, suc, ◌*◌, ◌<◌, Bool, true, ◌&&◌, ltb, List, [], ◌∷◌, take, drop, IsAscii, refl}
use Rattle.std.specs.Str.{bytes_eq}
use Rattle.std.specs.Fmt.{padded_integral, digits, char_count}
use Rattle.std.proofs.lemmas.Bool.Decides.{Decides-below_and, Decides-by_and, Decides-ltb}
use Rattle.std.proofs.lemmas.Slice.Eq.{bytes_eq-Decides}
use Rattle.std.proofs.lemmas.Str.Ascii.{IsAscii-from_all}
use Rattle.streams.specs.declared.text.TheConstants.{PAIRS}
use Rattle.streams.specs.Texts.{two_digits}

abbrev entry : ℕ → List ℕ
entry b = take 2 (drop (2 * b) PAIRS.now)

abbrev entries_match : ℕ → Bool
entries_match zero = true
entries_match (suc n) = bytes_eq (entry n) (two_digits n) && entries_match n

entries_checked : entries_match 256 ≡ true
unfolding padded_integral digits char_count
entries_checked = refl

-- the two bytes at twice b are b's digits
pub table_entry : (b : ℕ) → b < 256 → take 2 (drop (2 * b) PAIRS.now) ≡ two_digits b
table_entry =
    (Decides-below_and (λ b. bytes_eq (entry b) (two_digits b)) (λ b. entry b ≡ two_digits b) entries_match (λ b. bytes_eq-Decides _ _) refl (λ _. refl) 256).0 entries_checked

abbrev all_ascii : List ℕ → Bool
all_ascii [] = true
all_ascii (b ∷ bs) = ltb b 128 && all_ascii bs

pub table_ascii : IsAscii PAIRS.now
table_ascii =
    IsAscii-from_all PAIRS.now ((Decides-by_and (λ b. ltb b 128) (λ b. b < 128) all_ascii (λ b. Decides-ltb b 128) refl (λ _ _. refl) PAIRS.now).0 refl)
