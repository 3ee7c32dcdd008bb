-- SPN, 17 bytes: b1 and b2 shown as they stand, b3 to b8 zero; the name's bytes up to the first FF, then all FF.
use Rattle.std.specs.Prelude.{ℕ, ◌+◌, ◌*◌, ◌/◌, ◌%◌, List, [], ◌∷◌, Bool, true, false, ◌&&◌, eqb, ltb, leb, length, get_or, drop}
use Rattle.codings.specs.Answers.{Outcome, judge}
use Rattle.fields.specs.Text.{padded, text, closed, within}
pub use Rattle.codings.specs.declared.spn.Provider.{Provider}

-- A value: the two bits as they stand, and the name.
abbrev pub provider : Bool → Bool → List ℕ → Provider
provider b1 b2 name = record { bit1 = b1; bit2 = b2; name = name }

-- the provider of a file: b1 is the remainder of its first byte by 2, b2 the quotient
abbrev pub in_file : List ℕ → Provider
in_file l = provider (eqb (get_or l 0 0 % 2) 1) (eqb (get_or l 0 0 / 2) 1) (text 255 (drop 1 l))

-- b3 to b8 zero, and all FF after the name
unfoldable pub decode : List ℕ → Outcome Provider
decode l =
    judge (eqb (length l) 17) (ltb (get_or l 0 0) 4 && closed 255 255 (drop 1 l)) (provider false false []) (in_file l)

abbrev pub bit : Bool → ℕ
bit true = 1
bit false = 0

-- the first byte
unfoldable pub bits : Bool → Bool → ℕ
bits b1 b2 = bit b1 + 2 * bit b2

-- a name of at most 16 bytes, none of them FF
unfoldable pub writable : List ℕ → Bool
writable name = leb (length name) 16 && within 255 name

unfoldable pub encode : Provider → List ℕ → Outcome (List ℕ)
encode p room =
    judge (eqb (length room) 17) (writable p.name) room (bits p.bit1 p.bit2 ∷ padded 255 16 p.name)
