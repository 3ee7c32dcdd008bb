-- A case, by its kind: what a decode shows of a file, and what an encode makes of it. An unknown kind is 6;
-- an unknown operation is 5 if the file's length is wrong for its kind, else 6, and changes nothing.
use Rattle.std.specs.Prelude.{ℕ, List, [], length}
use Rattle.codings.specs.Answers.{Outcome, outcome}
use Rattle.codings.specs.Iccid as iccid
use Rattle.codings.specs.Imsi as imsi
use Rattle.codings.specs.Network as network
use Rattle.codings.specs.Services as services
use Rattle.codings.specs.Spn as spn
use Rattle.codings.specs.Admin as admin
use Rattle.codings.specs.Admin.{setting}
use Rattle.cases.specs.Values.{entry_of, entry_bytes, asked, ordered, state_of, state_bytes, mode_of, mnc_of, setting_bytes, provider_of, provider_bytes}
use Rattle.cases.specs.Shown.{shown, alone, refusal}
use Rattle.cases.specs.declared.kinds.Kind.{Kind}
use Rattle.cases.specs.declared.kinds.Kind.TheVariants.{Iccid, Imsi, Network, Services, Spn, Admin, Unknown}

unfoldable pub decode : Kind → List ℕ → List ℕ → Outcome (List ℕ)
decode Iccid v file = alone (length v) (iccid.decode file)
decode Imsi v file = alone (length v) (imsi.decode file)
decode Network v file = alone (length v) (shown entry_bytes (network.decode file))
decode Services v file = shown state_bytes (services.read file (asked v))
decode Spn v file = alone (length v) (shown provider_bytes (spn.decode file))
decode Admin v file = alone (length v) (shown setting_bytes (admin.decode file))
decode Unknown v file = outcome 6 []

unfoldable pub encode : Kind → List ℕ → List ℕ → Outcome (List ℕ)
encode Iccid v file = iccid.encode v file
encode Imsi v file = imsi.encode v file
encode Network v file = network.encode (entry_of v) file
encode Services v file = services.write file (ordered v) (state_of v)
encode Spn v file = spn.encode (provider_of v) file
encode Admin v file = admin.encode (setting (mode_of v) (mnc_of v)) file
encode Unknown v file = outcome 6 file

-- the answer to an unknown operation: a decode of the file tells whether its length is wrong
unfoldable pub other : Kind → List ℕ → ℕ
other k file = refusal (decode k [] file).answer
