-- What bytes are printed as.
use Rattle.std.specs.Prelude.{ℕ, false, true, ◌^◌, ◌-◌, ◌==◌, List, [], ◌∷◌, length, if◌then◌else◌}
use Rattle.std.specs.List.{flat_map}
use Rattle.std.specs.Fmt.{digits, format_spec, padded_integral}

-- a byte as two digits: what `{:02X}` writes
abbrev pub two_digits : ℕ → List ℕ
two_digits b = padded_integral (format_spec 32 0 4 2 (2 ^ 64 - 1)) false [] (digits 16 true b)

-- bytes in upper-case hexadecimal, and `-` where there are none
abbrev pub hexed : List ℕ → List ℕ
hexed bytes = if length bytes == 0 then 45 ∷ [] else flat_map two_digits bytes
