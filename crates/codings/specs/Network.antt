-- PLMN entry, 3 bytes: MCC digits 2, 1; F and MCC digit 3; MNC digits 2, 1. FF FF FF is unused.
-- An entry's value is `None` for an unused one, or `Some` network with the number of the MNC's digits, here always 2.
use Rattle.std.specs.Prelude.{ℕ, ◌+◌, ◌*◌, ◌/◌, ◌%◌, List, [], ◌∷◌, Bool, true, false, ◌&&◌, ◌||◌, eqb, ltb, length, get_or, take, drop, Option, Some, None}
use Rattle.codings.specs.Answers.{Outcome, judge}
use Rattle.fields.specs.Halves.{halves, joined}
use Rattle.fields.specs.Text.{lead, filled}
use Rattle.codings.specs.declared.network.Network.{Network}

abbrev pub plmn : ℕ → ℕ → ℕ → Option Network
plmn mcc mnc digits = Some (record { mcc = mcc; mnc = mnc; digits = digits })

-- six halves, low half first: the three digits of the MCC, F, the two digits of the MNC
unfoldable pub named : List ℕ → Bool
named hs = eqb (lead 10 hs) 3 && (eqb (get_or hs 3 0) 15 && eqb (lead 10 (take 2 (drop 4 hs))) 2)

unfoldable pub network : List ℕ → Option Network
network hs = plmn (100 * get_or hs 0 0 + 10 * get_or hs 1 0 + get_or hs 2 0) (10 * get_or hs 4 0 + get_or hs 5 0) 2

-- FF FF FF is unused
unfoldable pub entry_in : List ℕ → Option Network
entry_in l = elim (filled 255 l) [ true ↦ None | false ↦ network (halves l) ]

unfoldable pub decode : List ℕ → Outcome (Option Network)
decode l = judge (eqb (length l) 3) (filled 255 l || named (halves l)) None (entry_in l)

-- an MCC of three digits, an MNC of two
unfoldable pub writable : Option Network → Bool
writable None = true
writable (Some n) = ltb n.mcc 1000 && (ltb n.mnc 100 && eqb n.digits 2)

unfoldable pub bytes : Option Network → List ℕ
bytes None = 255 ∷ 255 ∷ 255 ∷ []
bytes (Some n) = joined (n.mcc / 100 ∷ n.mcc / 10 % 10 ∷ n.mcc % 10 ∷ 15 ∷ n.mnc / 10 ∷ n.mnc % 10 ∷ [])

unfoldable pub encode : Option Network → List ℕ → Outcome (List ℕ)
encode e room = judge (eqb (length room) 3) (writable e) room (bytes e)
