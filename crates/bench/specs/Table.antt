-- P1 to P12 of paper 01, one table under one statement: `Holds` of every row.
use Rattle.std.specs.Prelude.{ℕ, ◌≡◌, List, [], ◌∷◌, map, Option, Some, None}
use Rattle.card.specs.Sessions.{reset}
use Rattle.card.specs.Play.{Outcome, run}
use Rattle.codings.specs.Answers as coding
use Rattle.codings.specs.Network as network
use Rattle.codings.specs.Network.{plmn}
use Rattle.codings.specs.declared.network.Network.{Network}
use Rattle.bench.specs.CardK.{card_k, card_with}

-- A row: an image, commands from a reset, and the exact responses; or the pointer after each command; or a PLMN entry and its bytes.
pub data Row : Type 0 where
  answers : List ℕ → List (List ℕ) → List (List ℕ) → Row
  points : List ℕ → List (List ℕ) → List (Option ℕ) → Row
  codes : Option Network → List ℕ → Row

-- each command with room for 258 bytes
abbrev pub played : List ℕ → List (List ℕ) → List Outcome
played l cs = run l reset (map (λ c. (c, 258)) cs)

-- Every command is played, host answer 0. The bytes are written into whatever three bytes are lent, and read back.
abbrev pub Holds : Row → Type 0
Holds (answers l cs rs) =
    (map (λ (o : Outcome). o.host) (played l cs) ≡ map (λ (r : List ℕ). 0) rs)
    × (map (λ (o : Outcome). o.response) (played l cs) ≡ rs)
Holds (points l cs ps) = map (λ (o : Outcome). o.session.pointer) (played l cs) ≡ ps
Holds (codes e b) =
    ((x y z : ℕ) → network.encode e (x ∷ y ∷ z ∷ []) ≡ coding.done b) × (network.decode b ≡ coding.done e)

abbrev pub All : List Row → Type 0
All [] = Unit
All (r ∷ rs) = Holds r × All rs

-- The commands of the bench.
abbrev pub select_df : List ℕ
select_df = 0xa0 ∷ 0xa4 ∷ 0 ∷ 0 ∷ 2 ∷ 0x7f ∷ 0x20 ∷ []

abbrev pub select_ef : ℕ → ℕ → List ℕ
select_ef high low = 0xa0 ∷ 0xa4 ∷ 0 ∷ 0 ∷ 2 ∷ high ∷ low ∷ []

abbrev pub read_imsi : List ℕ
read_imsi = 0xa0 ∷ 0xb0 ∷ 0 ∷ 0 ∷ 9 ∷ []

abbrev pub verify_chv1 : List ℕ
verify_chv1 = 0xa0 ∷ 0x20 ∷ 0 ∷ 1 ∷ 8 ∷ 0x31 ∷ 0x32 ∷ 0x33 ∷ 0x34 ∷ 0xff ∷ 0xff ∷ 0xff ∷ 0xff ∷ []

abbrev pub get_response : ℕ → List ℕ
get_response n = 0xa0 ∷ 0xc0 ∷ 0 ∷ 0 ∷ n ∷ []

abbrev pub increase : ℕ → ℕ → ℕ → List ℕ
increase a b c = 0xa0 ∷ 0x32 ∷ 0 ∷ 0 ∷ 3 ∷ a ∷ b ∷ c ∷ []

abbrev pub read_record : ℕ → List ℕ
read_record k = 0xa0 ∷ 0xb2 ∷ k ∷ 4 ∷ 3 ∷ []

-- SEEK type/mode 02 for 01
abbrev pub seek : List ℕ
seek = 0xa0 ∷ 0xa2 ∷ 0 ∷ 0x02 ∷ 1 ∷ 0x01 ∷ []

-- The status words of the bench.
abbrev pub done : List ℕ
done = 0x90 ∷ 0x00 ∷ []

abbrev pub waits : ℕ → List ℕ
waits n = 0x9f ∷ n ∷ []

-- the answers to selecting 7F20, presenting CHV1 and selecting 6F39
abbrev pub to_counter : List (List ℕ) → List (List ℕ)
to_counter cs = select_df ∷ verify_chv1 ∷ select_ef 0x6f 0x39 ∷ cs

abbrev pub at_counter : List (List ℕ) → List (List ℕ)
at_counter rs = waits 0x16 ∷ done ∷ waits 0x0f ∷ rs

abbrev pub table : List Row
table =
    -- P1 to P7: the run of seven
    answers card_k
    (select_df ∷ get_response 0 ∷ select_ef 0x6f 0x07 ∷ read_imsi ∷ verify_chv1 ∷ read_imsi ∷ select_ef 0x2f 0xe2 ∷ [])
    (waits 0x16 ∷ (0x67 ∷ 0x16 ∷ []) ∷ waits 0x0f ∷ (0x98 ∷ 0x04 ∷ []) ∷ done
    ∷ (0x08 ∷ 0x09 ∷ 0x10 ∷ 0x10 ∷ 0x10 ∷ 0x32 ∷ 0x54 ∷ 0x76 ∷ 0x98 ∷ done) ∷ (0x94 ∷ 0x04 ∷ []) ∷ [])
    -- P8: "STATUS 16 in 7F20 at first"
    ∷ answers card_k
    (select_df ∷ (0xa0 ∷ 0xf2 ∷ 0 ∷ 0 ∷ 0x16 ∷ []) ∷ [])
    (waits 0x16
    ∷ (0 ∷ 0 ∷ 0 ∷ 0 ∷ 0x7f ∷ 0x20 ∷ 0x02 ∷ 0 ∷ 0 ∷ 0 ∷ 0 ∷ 0 ∷ 0x09 ∷ 0x13 ∷ 0x00 ∷ 0x03 ∷ 0x04 ∷ 0x00 ∷ 0x83 ∷ 0x8a ∷ 0x83 ∷ 0x8a ∷ done) ∷ [])
    -- P9: "INCREASE 00000A with CHV1: 9F06, then 00000F00000A; record 2 is 000005"
    ∷ answers card_k
    (to_counter (increase 0 0 0x0a ∷ get_response 6 ∷ read_record 1 ∷ read_record 2 ∷ []))
    (at_counter (waits 0x06 ∷ (0 ∷ 0 ∷ 0x0f ∷ 0 ∷ 0 ∷ 0x0a ∷ done) ∷ (0 ∷ 0 ∷ 0x0f ∷ done) ∷ (0 ∷ 0 ∷ 5 ∷ done) ∷ []))
    ∷ points card_k (to_counter (increase 0 0 0x0a ∷ [])) (None ∷ None ∷ Some 1 ∷ Some 1 ∷ [])
    -- P10: "from FFFFFF adding 000000 succeeds, adding 000001 is 9850"
    ∷ answers (card_with 0xff 0xff 0xff)
    (to_counter (increase 0 0 0 ∷ get_response 6 ∷ increase 0 0 1 ∷ read_record 1 ∷ []))
    (at_counter (waits 0x06 ∷ (0xff ∷ 0xff ∷ 0xff ∷ 0 ∷ 0 ∷ 0 ∷ done) ∷ (0x98 ∷ 0x50 ∷ []) ∷ (0xff ∷ 0xff ∷ 0xff ∷ done) ∷ []))
    -- P11: "SEEK type/mode 02 for 01 in 6FE0 twice lands on 1, then 3; a third is 9404 and stays on 3"
    ∷ answers card_k
    (select_df ∷ select_ef 0x6f 0xe0 ∷ seek ∷ seek ∷ seek ∷ [])
    (waits 0x16 ∷ waits 0x0f ∷ done ∷ done ∷ (0x94 ∷ 0x04 ∷ []) ∷ [])
    ∷ points card_k (select_df ∷ select_ef 0x6f 0xe0 ∷ seek ∷ seek ∷ seek ∷ []) (None ∷ None ∷ Some 1 ∷ Some 3 ∷ Some 3 ∷ [])
    -- P12: "MCC 246, MNC 81 is 42F618"
    ∷ codes (plmn 246 81 2) (0x42 ∷ 0xf6 ∷ 0x18 ∷ [])
    ∷ []

-- P1 to P12 hold of the definition.
abbrev pub EveryRowHolds : Type 0
EveryRowHolds = All table
