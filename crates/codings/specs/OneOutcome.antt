-- Each public promise admits one outcome: of any two that it admits, answer, value and every byte are equal.
use Rattle.std.specs.Prelude.{ℕ, ◌≡◌, List, [], Bool, false, take, Result, Ok, Err, Option, None}
use Rattle.fields.specs.Bytes.{Counted}
use Rattle.fields.specs.declared.bytes.Bytes.TheInside.{Inside}
use Rattle.codings.specs.Answers.{Outcome, outcome, done, code, told, decoded}
use Rattle.codings.specs.Network as network
use Rattle.codings.specs.Services as services
use Rattle.codings.specs.Admin as admin
use Rattle.codings.specs.Admin.{Setting, setting}
use Rattle.codings.specs.Spn as spn
use Rattle.codings.specs.Spn.{Provider, provider}
use Rattle.codings.specs.Iccid as iccid
use Rattle.codings.specs.Imsi as imsi
use Rattle.codings.specs.declared.Refused.{Refused}
use Rattle.codings.specs.declared.network.Network.{Network}
use Rattle.codings.specs.declared.services.Service.{Service}
use Rattle.codings.specs.declared.services.Service.TheVariants.{NotAllocated}

-- what is promised of any two is equal
abbrev pub One : (A : Type 0) → (A → Type 0) → Type 0
One A Promise = (r s : A) → Promise r → Promise s → r ≡ s

-- a decoder's answer
abbrev pub OneRead : {A : Type 0} → A → Outcome A → Type 0
OneRead {A = A} left o = One (Result A Refused) (λ r. decoded left r ≡ o)

-- A decoder's answer as it lies in memory: something holds of its value, and a clause sees a part of that.
abbrev pub Tells : {A B : Type 0} → (A → Type 0) → (A → B) → B → Outcome B → Result A Refused → Type 0
Tells Holds seen left o (Ok a) = Holds a × (done (seen a) ≡ o)
Tells Holds seen left o (Err e) = outcome (code e) left ≡ o

-- n bytes, zeros after those that count, of which a clause sees those that count
abbrev pub Whole : (n : ℕ) → Inside n → Type 0
Whole n b = Counted n b.count b.bytes

abbrev pub counting : (n : ℕ) → Inside n → List ℕ
counting n b = take b.count b.bytes

abbrev pub OneInMemory : ℕ → Outcome (List ℕ) → Type 0
OneInMemory n o = One (Result (Inside n) Refused) (Tells (Whole n) (counting n) [] o)

-- a provider with all bytes of its name
pub record Named : Type 0 where
  pub bit1 : Bool
  pub bit2 : Bool
  pub name : Inside 16

abbrev pub OneNamed : Outcome Provider → Type 0
OneNamed o =
    One (Result Named Refused)
    (Tells (λ p. Whole 16 p.name) (λ p. provider p.bit1 p.bit2 (counting 16 p.name)) (provider false false []) o)

-- an encoder's answer, and the lent bytes afterwards
pub record Written : Type 0 where
  pub answer : Result (Unit {0}) Refused
  pub bytes : List ℕ

abbrev pub OneWritten : Outcome (List ℕ) → Type 0
OneWritten o = One Written (λ w. told w.answer w.bytes ≡ o)

pub record OneOutcome : Type 0 where
  pub iccid_decode : (l : List ℕ) → OneRead [] (iccid.decode l)
  pub iccid_encode : (digits room : List ℕ) → OneWritten (iccid.encode digits room)
  pub imsi_decode : (l : List ℕ) → OneRead [] (imsi.decode l)
  pub imsi_encode : (digits room : List ℕ) → OneWritten (imsi.encode digits room)
  pub network_decode : (l : List ℕ) → OneRead None (network.decode l)
  pub network_encode : (e : Option Network) (room : List ℕ) → OneWritten (network.encode e room)
  pub services_read : (l : List ℕ) (n : ℕ) → OneRead NotAllocated (services.read l n)
  pub services_write : (l : List ℕ) (n : ℕ) (v : Service) → OneWritten (services.write l n v)
  pub spn_decode : (l : List ℕ) → OneRead (provider false false []) (spn.decode l)
  pub spn_encode : (p : Provider) (room : List ℕ) → OneWritten (spn.encode p room)
  pub admin_decode : (l : List ℕ) → OneRead (setting 0 None) (admin.decode l)
  pub admin_encode : (v : Setting) (l : List ℕ) → OneWritten (admin.encode v l)
  -- of the decoders that give bytes in fixed memory, every byte, those that do not count too, and the counts
  pub iccid_bytes : (l : List ℕ) → OneInMemory 20 (iccid.decode l)
  pub imsi_bytes : (l : List ℕ) → OneInMemory 15 (imsi.decode l)
  pub spn_bytes : (l : List ℕ) → OneNamed (spn.decode l)
