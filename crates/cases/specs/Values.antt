-- Values as bytes: digits one byte each; a service's number in 4 bytes, its state in 1; the byte of b1 and b2, then the name;
-- mode, MNC length (0 absent). Bytes of a length that the kind does not take are read as a value outside the coding.
use Rattle.std.specs.Prelude.{ℕ, ◌+◌, ◌*◌, ◌/◌, ◌%◌, List, [], ◌∷◌, false, ◌&&◌, eqb, ltb, leb, length, get_or, drop, Option, Some, None}
use Rattle.fields.specs.Text.{lead}
use Rattle.cases.specs.Choice.{choose}
use Rattle.codings.specs.Spn.{provider, bits}
use Rattle.codings.specs.Network.{plmn}
use Rattle.codings.specs.declared.admin.Setting.{Setting}
use Rattle.codings.specs.declared.network.Network.{Network}
use Rattle.codings.specs.declared.services.Service.{Service}
use Rattle.codings.specs.declared.services.Service.TheVariants.{NotAllocated, Allocated, Activated}
use Rattle.codings.specs.declared.spn.Provider.{Provider}

-- no bytes: unused; the MCC's three digits and the MNC's two: a network; all else: outside, for it has no MNC digits
unfoldable pub entry_of : List ℕ → Option Network
entry_of v =
    choose (eqb (length v) 0) None
    (choose (eqb (length v) 5 && eqb (lead 10 v) 5)
    (plmn (100 * get_or v 0 0 + 10 * get_or v 1 0 + get_or v 2 0) (10 * get_or v 3 0 + get_or v 4 0) 2)
    (plmn 0 0 0))

abbrev pub entry_bytes : Option Network → List ℕ
entry_bytes None = []
entry_bytes (Some n) = n.mcc / 100 % 10 ∷ n.mcc / 10 % 10 ∷ n.mcc % 10 ∷ n.mnc / 10 % 10 ∷ n.mnc % 10 ∷ []

-- the number in the first four bytes, high byte first
unfoldable pub word : List ℕ → ℕ
word v = 16777216 * get_or v 0 0 + 65536 * get_or v 1 0 + 256 * get_or v 2 0 + get_or v 3 0

-- the service that a decode asks for, in 4 bytes; 0 is outside
unfoldable pub asked : List ℕ → ℕ
asked v = choose (eqb (length v) 4) (word v) 0

-- the service that an encode writes, in 4 bytes before its state, 0 to 2
unfoldable pub ordered : List ℕ → ℕ
ordered v = choose (eqb (length v) 5 && ltb (get_or v 4 0) 3) (word v) 0

unfoldable pub state_of : List ℕ → Service
state_of v = choose (eqb (get_or v 4 0) 0) NotAllocated (choose (eqb (get_or v 4 0) 1) Allocated Activated)

abbrev pub state_byte : Service → ℕ
state_byte NotAllocated = 0
state_byte Allocated = 1
state_byte Activated = 2

abbrev pub state_bytes : Service → List ℕ
state_bytes v = state_byte v ∷ []

-- mode and MNC length in 2 bytes; mode 3 is outside
unfoldable pub mode_of : List ℕ → ℕ
mode_of v = choose (eqb (length v) 2) (get_or v 0 0) 3

unfoldable pub mnc_of : List ℕ → Option ℕ
mnc_of v = choose (eqb (get_or v 1 0) 0) None (Some (get_or v 1 0))

abbrev pub mnc_byte : Option ℕ → ℕ
mnc_byte None = 0
mnc_byte (Some n) = n

abbrev pub setting_bytes : Setting → List ℕ
setting_bytes v = v.mode ∷ mnc_byte v.mnc ∷ []

-- the byte of b1 and b2, and the name; a name of FF is outside
unfoldable pub provider_of : List ℕ → Provider
provider_of v =
    choose (leb 1 (length v) && ltb (get_or v 0 0) 4)
    (provider (eqb (get_or v 0 0 % 2) 1) (eqb (get_or v 0 0 / 2) 1) (drop 1 v))
    (provider false false (255 ∷ []))

abbrev pub provider_bytes : Provider → List ℕ
provider_bytes p = bits p.bit1 p.bit2 ∷ p.name
