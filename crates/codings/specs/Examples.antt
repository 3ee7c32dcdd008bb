-- Worked examples, as one table.
use Rattle.std.specs.Prelude.{ℕ, zero, suc, ◌/◌, ◌%◌, ◌^◌, ◌≡◌, List, [], ◌∷◌, Bool, true, false, length, replicate, Option, Some, None}
use Rattle.codings.specs.Answers.{outcome, done}
use Rattle.codings.specs.Iccid as iccids
use Rattle.codings.specs.Imsi as imsis
use Rattle.codings.specs.Network as networks
use Rattle.codings.specs.Services as tables
use Rattle.codings.specs.Spn as names
use Rattle.codings.specs.Admin as admins
use Rattle.codings.specs.Network.{plmn}
use Rattle.codings.specs.declared.network.Network.{Network}
use Rattle.codings.specs.declared.services.Service.{Service}
use Rattle.codings.specs.declared.services.Service.TheVariants.{NotAllocated, Allocated, Activated}

-- so many digits of a number, and so many bytes
abbrev pub digits : ℕ → ℕ → List ℕ
digits zero n = []
digits (suc k) n = n / 10 ^ k % 10 ∷ digits k n

abbrev pub bytes : ℕ → ℕ → List ℕ
bytes zero n = []
bytes (suc k) n = n / 256 ^ k % 256 ∷ bytes k n

-- A value and its file, both ways; a file that is refused, with the number; a service read; a service written.
pub data Example : Type 0 where
  iccid : List ℕ → List ℕ → Example
  imsi : List ℕ → List ℕ → Example
  network : Option Network → List ℕ → Example
  spn : Bool → Bool → List ℕ → List ℕ → Example
  admin : ℕ → Option ℕ → List ℕ → Example
  no_iccid : ℕ → List ℕ → Example
  no_imsi : ℕ → List ℕ → Example
  no_network : ℕ → List ℕ → Example
  no_spn : ℕ → List ℕ → Example
  no_admin : ℕ → List ℕ → Example
  reads : List ℕ → ℕ → Service → Example
  writes : List ℕ → ℕ → Service → List ℕ → Example

abbrev pub Holds : Example → Type 0
Holds (iccid d l) = (iccids.decode l ≡ done d) × (iccids.encode d (replicate (length l) 0) ≡ done l)
Holds (imsi d l) = (imsis.decode l ≡ done d) × (imsis.encode d (replicate (length l) 0) ≡ done l)
Holds (network e l) = (networks.decode l ≡ done e) × (networks.encode e (replicate (length l) 0) ≡ done l)
Holds (spn b1 b2 n l) =
    (names.decode l ≡ done (names.provider b1 b2 n)) × (names.encode (names.provider b1 b2 n) (replicate (length l) 0) ≡ done l)
Holds (admin m n l) = (admins.decode l ≡ done (admins.setting m n)) × (admins.encode (admins.setting m n) l ≡ done l)
Holds (no_iccid a l) = iccids.decode l ≡ outcome a []
Holds (no_imsi a l) = imsis.decode l ≡ outcome a []
Holds (no_network a l) = networks.decode l ≡ outcome a None
Holds (no_spn a l) = names.decode l ≡ outcome a (names.provider false false [])
Holds (no_admin a l) = admins.decode l ≡ outcome a (admins.setting 0 None)
Holds (reads l n v) = tables.read l n ≡ done v
Holds (writes l n v k) = tables.write l n v ≡ done k

abbrev pub examples : List Example
examples =
    iccid (digits 19 8944100030428955010) (bytes 10 0x984401000324985510F0)
    ∷ iccid (digits 20 89441000304289550103) (bytes 10 0x98440100032498551030)
    ∷ iccid (digits 1 8) (bytes 10 0xF8FFFFFFFFFFFFFFFFFF)
    ∷ no_iccid 6 (bytes 10 0x98440100032498551F00)
    ∷ no_iccid 6 (bytes 10 0xFFFFFFFFFFFFFFFFFFFF)
    ∷ no_iccid 5 (bytes 9 0xFFFFFFFFFFFFFFFFFF)
    ∷ imsi (digits 15 001010123456789) (bytes 9 0x080910101032547698)
    ∷ imsi (digits 14 00101012345678) (bytes 9 0x0801101010325476F8)
    ∷ imsi (digits 1 7) (bytes 9 0x0179FFFFFFFFFFFFFF)
    ∷ imsi (digits 2 12) (bytes 9 0x0211F2FFFFFFFFFFFF)
    ∷ imsi (digits 3 123) (bytes 9 0x021932FFFFFFFFFFFF)
    ∷ no_imsi 6 (bytes 9 0x080110101032547698)
    ∷ no_imsi 6 (bytes 9 0x0809101010325476F8)
    ∷ no_imsi 6 (bytes 9 0x01F1FFFFFFFFFFFFFF)
    ∷ network (plmn 246 81 2) (bytes 3 0x42F618)
    ∷ network None (bytes 3 0xFFFFFF)
    ∷ no_network 6 (bytes 3 0x130014)
    ∷ reads (bytes 2 0x0200) 1 NotAllocated
    ∷ reads (bytes 2 0x0300) 9 NotAllocated
    ∷ writes (bytes 2 0x0200) 1 Activated (bytes 2 0x0300)
    ∷ writes (bytes 2 0x0200) 1 NotAllocated (bytes 2 0x0200)
    ∷ writes (bytes 2 0x0300) 1 Allocated (bytes 2 0x0100)
    ∷ spn true false (bytes 2 0x4142) (bytes 17 0x014142FFFFFFFFFFFFFFFFFFFFFFFFFFFF)
    ∷ no_spn 6 (bytes 17 0x0141FF42FFFFFFFFFFFFFFFFFFFFFFFFFF)
    ∷ no_spn 6 (bytes 17 0xFFFFFFFFFFFFFFFFFFFFFFFFFFFFFFFFFF)
    ∷ admin 0x00 None (bytes 3 0x000000)
    ∷ admin 0x01 (Some 2) (bytes 4 0x01000102)
    ∷ admin 0x01 (Some 3) (bytes 4 0x010001F3)
    ∷ no_admin 6 (bytes 4 0x00000001)
    ∷ no_admin 6 (bytes 3 0x030000)
    ∷ no_admin 5 (bytes 2 0x0000)
    ∷ []

abbrev pub All : List Example → Type 0
All [] = Unit {0}
All (e ∷ es) = Holds e × All es

abbrev pub Examples : Type 0
Examples = All examples
