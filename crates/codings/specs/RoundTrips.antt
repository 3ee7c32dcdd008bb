-- Decoder and encoder give back what the other made, on these domains; and their refusals are exact.
use Rattle.std.specs.Prelude.{ℕ, ◌*◌, ◌/◌, ◌≤◌, ◌<◌, ◌≡◌, ◌↔◌, List, length, get_or, Option}
use Rattle.codings.specs.Answers.{Outcome, done}
use Rattle.codings.specs.Network as network
use Rattle.codings.specs.Services as services
use Rattle.codings.specs.Admin as admin
use Rattle.codings.specs.Admin.{Setting}
use Rattle.codings.specs.Spn as spn
use Rattle.codings.specs.Spn.{Provider}
use Rattle.codings.specs.Iccid as iccid
use Rattle.codings.specs.Imsi as imsi
use Rattle.codings.specs.declared.network.Network.{Network}
use Rattle.codings.specs.declared.services.Service.{Service}

-- ICCID, IMSI, PLMN entry and SPN: values of the type A in files of `size` bytes.
pub record Coding (A : Type 0) (size : ℕ) (decode : List ℕ → Outcome A) (encode : A → List ℕ → Outcome (List ℕ)) : Type 0 where
  -- What is encoded decodes to itself, in any room that took it.
  pub back : (v : A) (room : List ℕ) → (encode v room).answer ≡ 0 → decode (encode v room).value ≡ done v
  -- What decodes encodes to the same bytes, in any room of the file's size.
  pub forth : (l room : List ℕ) → (decode l).answer ≡ 0 → length room ≡ size → encode (decode l).value room ≡ done l
  -- There is a file that decodes.
  pub file : List ℕ
  pub some : (decode file).answer ≡ 0
  -- The answer is 5 exactly for a wrong length.
  pub decode5 : (l : List ℕ) → ((decode l).answer ≡ 5) ↔ ¬ (length l ≡ size)
  pub encode5 : (v : A) (room : List ℕ) → ((encode v room).answer ≡ 5) ↔ ¬ (length room ≡ size)
  -- The answer is 6 exactly for a right length and bytes that are no value's file, or a value that is in no file.
  pub decode6 : (l : List ℕ) → ((decode l).answer ≡ 6) ↔ ((length l ≡ size) × ((v : A) (room : List ℕ) → ¬ (encode v room ≡ done l)))
  pub encode6 : (v : A) (room : List ℕ)
      → ((encode v room).answer ≡ 6) ↔ ((length room ≡ size) × ((l : List ℕ) → ¬ (decode l ≡ done v)))
  -- On a refusal nothing is written.
  pub kept : (v : A) (room : List ℕ) → ¬ ((encode v room).answer ≡ 0) → (encode v room).value ≡ room

abbrev pub IccidCoding : Type 0
IccidCoding = Coding (List ℕ) 10 iccid.decode iccid.encode

abbrev pub ImsiCoding : Type 0
ImsiCoding = Coding (List ℕ) 9 imsi.decode imsi.encode

abbrev pub NetworkCoding : Type 0
NetworkCoding = Coding (Option Network) 3 network.decode network.encode

abbrev pub SpnCoding : Type 0
SpnCoding = Coding Provider 17 spn.decode spn.encode

-- The service table: service n of the table l, where 1 ≤ n ≤ 4 · length.
pub record ServiceTable : Type 0 where
  -- A service that is written reads back.
  pub back : (l : List ℕ) (n : ℕ) (v : Service) → (services.write l n v).answer ≡ 0
      → services.read (services.write l n v).value n ≡ done v
  -- Every other service reads as before.
  pub others : (l : List ℕ) (n m : ℕ) (v : Service) → (services.write l n v).answer ≡ 0 → ¬ (m ≡ n)
      → services.read (services.write l n v).value m ≡ services.read l m
  -- Writing what was read changes nothing.
  pub forth : (l : List ℕ) (n : ℕ) → 2 ≤ length l → 1 ≤ n → n ≤ 4 * length l
      → services.write l n (services.read l n).value ≡ done l
  -- Every service of a table of 2 bytes or more is written.
  pub some : (l : List ℕ) (n : ℕ) (v : Service) → 2 ≤ length l → 1 ≤ n → n ≤ 4 * length l → (services.write l n v).answer ≡ 0
  -- The answer is 5 exactly for under 2 bytes.
  pub read5 : (l : List ℕ) (n : ℕ) → ((services.read l n).answer ≡ 5) ↔ (length l < 2)
  pub write5 : (l : List ℕ) (n : ℕ) (v : Service) → ((services.write l n v).answer ≡ 5) ↔ (length l < 2)
  -- The answer is 6 exactly for service 0 and, to the writer, for a service past the end.
  pub read6 : (l : List ℕ) (n : ℕ) → ((services.read l n).answer ≡ 6) ↔ ((2 ≤ length l) × (n ≡ 0))
  pub write6 : (l : List ℕ) (n : ℕ) (v : Service)
      → ((services.write l n v).answer ≡ 6) ↔ ((2 ≤ length l) × ¬ ((1 ≤ n) × (n ≤ 4 * length l)))
  -- On a refusal nothing is written.
  pub kept : (l : List ℕ) (n : ℕ) (v : Service) → ¬ ((services.write l n v).answer ≡ 0) → (services.write l n v).value ≡ l

-- Two files that differ at most in what is decoded: the mode, and the low half of byte 4.
pub record Undecoded (l l' : List ℕ) : Type 0 where
  pub long : length l' ≡ length l
  pub high : get_or l' 3 0 / 16 ≡ get_or l 3 0 / 16
  pub rest : (i : ℕ) → ¬ (i ≡ 0) → ¬ (i ≡ 3) → get_or l' i 0 ≡ get_or l i 0

-- Administrative data, in a file of 3 bytes or more.
pub record AdminCoding : Type 0 where
  -- What is encoded decodes to itself.
  pub back : (v : Setting) (l : List ℕ) → (admin.encode v l).answer ≡ 0 → admin.decode (admin.encode v l).value ≡ done v
  -- The bits that are not decoded are kept.
  pub rest : (v : Setting) (l : List ℕ) → Undecoded l (admin.encode v l).value
  -- Encoding what was decoded changes nothing.
  pub forth : (l : List ℕ) → (admin.decode l).answer ≡ 0 → admin.encode (admin.decode l).value l ≡ done l
  -- There is a file that decodes.
  pub file : List ℕ
  pub some : (admin.decode file).answer ≡ 0
  -- The answer is 5 exactly for under 3 bytes.
  pub decode5 : (l : List ℕ) → ((admin.decode l).answer ≡ 5) ↔ (length l < 3)
  pub encode5 : (v : Setting) (l : List ℕ) → ((admin.encode v l).answer ≡ 5) ↔ (length l < 3)
  -- The answer is 6 exactly for a right length and bytes that are no setting's file, or a setting that is in no file of this length.
  pub decode6 : (l : List ℕ)
      → ((admin.decode l).answer ≡ 6) ↔ ((3 ≤ length l) × ((v : Setting) (old : List ℕ) → ¬ (admin.encode v old ≡ done l)))
  pub encode6 : (v : Setting) (l : List ℕ)
      → ((admin.encode v l).answer ≡ 6)
      ↔ ((3 ≤ length l) × ((file : List ℕ) → length file ≡ length l → ¬ (admin.decode file ≡ done v)))
  -- On a refusal nothing is written.
  pub kept : (v : Setting) (l : List ℕ) → ¬ ((admin.encode v l).answer ≡ 0) → (admin.encode v l).value ≡ l

pub record RoundTrips : Type 0 where
  pub iccids : IccidCoding
  pub imsis : ImsiCoding
  pub networks : NetworkCoding
  pub tables : ServiceTable
  pub names : SpnCoding
  pub settings : AdminCoding
