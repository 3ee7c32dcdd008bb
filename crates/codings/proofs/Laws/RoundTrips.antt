-- All round trips, and all refusals.
use Prim.Native.Nat.{ℕ}
use mathlib.Core.Path.{◌≡◌, refl, ◌∙◌, sym}
use mathlib.Core.List.{List, [], ◌∷◌}
use mathlib.Core.Bool.{false, ◌||◌, ◌&&◌}
use lib.Dec.{ltb}
use lib.ListN.{length, get_or, drop, replicate}
use Rattle.codings.specs.Answers.{done, judge}
use Rattle.fields.specs.Halves.{halves, joined}
use Rattle.fields.specs.Text.{lead, filled, padded, text, closed, within}
use Rattle.codings.specs.Network as network
use Rattle.codings.specs.Spn as spn
use Rattle.codings.specs.Spn.{Provider}
use Rattle.codings.specs.Iccid as iccid
use Rattle.codings.specs.Imsi as imsi
use Rattle.codings.specs.RoundTrips.{IccidCoding, ImsiCoding, NetworkCoding, SpnCoding, RoundTrips}
use Rattle.std.specs.Prelude.{None}
use Rattle.codings.proofs.Laws.Exact.{coding}
use Rattle.codings.proofs.Laws.NetworkTrip as networks
use Rattle.codings.proofs.Laws.SpnTrip as spns
use Rattle.codings.proofs.Laws.IccidTrip as iccids
use Rattle.codings.proofs.Laws.ImsiTrip as imsis
use Rattle.codings.proofs.Laws.ImsiByCount.{decodes_by_count}
use Rattle.codings.proofs.Laws.ServicesExact.{service_table}
use Rattle.codings.proofs.Laws.AdminExact.{admin_coding}

-- the digit 8
iccid_file : (iccid.decode (0xF8 ∷ replicate 9 255)).answer ≡ 0
unfolding iccid.decode iccid.numbered judge halves closed text lead filled
iccid_file = refl

iccid_coding : IccidCoding
unfolding iccid.decode iccid.encode
iccid_coding =
    coding 10 (λ l. iccid.numbered (halves l)) [] (λ l. text 10 (halves l)) iccid.writable (λ d. joined (padded 15 20 d))
    iccids.encoded iccids.decoded (0xF8 ∷ replicate 9 255) iccid_file

-- the IMSI by its length is the IMSI by its digits' count
imsi_encoded : (t room : List ℕ) → (imsi.encode t room).answer ≡ 0 → imsi.decode (imsi.encode t room).value ≡ done t
imsi_encoded t room a = sym (decodes_by_count _) ∙ imsis.encoded t room a

imsi_decoded : (l room : List ℕ) → (imsi.decode l).answer ≡ 0 → length room ≡ 9 → imsi.encode (imsi.decode l).value room ≡ done l
imsi_decoded l room = rw (← decodes_by_count l) (imsis.decoded l room)

-- the digit 7
imsi_file : (imsi.decode (1 ∷ 0x79 ∷ replicate 7 255)).answer ≡ 0
unfolding imsi.decode imsi.numbered imsi.odd judge halves within lead filled
imsi_file = refl

imsi_coding : ImsiCoding
unfolding imsi.decode imsi.encode
imsi_coding =
    coding 9 imsi.numbered [] (λ l. imsi.digits_in (imsi.counted l)) imsi.writable
    (λ d. imsi.size (length d) ∷ joined (imsi.mark (length d) ∷ padded 15 15 d)) imsi_encoded imsi_decoded (1 ∷ 0x79 ∷ replicate 7 255)
    imsi_file

network_file : (network.decode (replicate 3 255)).answer ≡ 0
unfolding network.decode judge filled
network_file = refl

network_coding : NetworkCoding
unfolding network.decode network.encode
network_coding =
    coding 3 (λ l. filled 255 l || network.named (halves l)) None network.entry_in network.writable network.bytes
    networks.encoded networks.decoded (replicate 3 255) network_file

-- the empty name
spn_file : (spn.decode (0 ∷ replicate 16 255)).answer ≡ 0
unfolding spn.decode judge closed lead filled
spn_file = refl

spn_coding : SpnCoding
unfolding spn.decode spn.encode
spn_coding =
    coding 17 (λ l. ltb (get_or l 0 0) 4 && closed 255 255 (drop 1 l)) (spn.provider false false []) spn.in_file
    (λ p. spn.writable p.name) (λ p. spn.bits p.bit1 p.bit2 ∷ padded 255 16 p.name) spns.encoded spns.decoded
    (0 ∷ replicate 16 255) spn_file

pub round_trips : RoundTrips
round_trips =
    record {
      iccids = iccid_coding;
      imsis = imsi_coding;
      networks = network_coding;
      tables = service_table;
      names = spn_coding;
      settings = admin_coding;
    }
