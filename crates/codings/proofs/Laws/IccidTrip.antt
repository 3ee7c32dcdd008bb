-- ICCID, there and back.
use Prim.Native.Nat.{ℕ, ◌≤◌, ◌<◌}
use mathlib.Core.Path.{◌≡◌, refl, ap, ◌∙◌, sym}
use mathlib.Core.List.{List, []}
use mathlib.Core.Bool.{true, ◌&&◌}
use native.Mathlib.Omega.{arith}
use borrow.Author.Tests.{eq-eqb, eqb-true, lt-ltb, ltb-true, le-leb, leb-true}
use lib.Dec.{eqb, ltb, leb}
use lib.ListN.{length, get_or}
use Rattle.codings.specs.Answers.{done}
use Rattle.fields.specs.Halves.{halves, joined}
use Rattle.fields.specs.Text.{lead, padded, text, closed, within}
use Rattle.codings.specs.Iccid.{numbered, decode, writable, encode}
use Rattle.codings.proofs.Laws.Answers.{right, was_done}
use Rattle.codings.proofs.Laws.Tests.{both}
use Rattle.fields.proofs.Laws.Fields.{padded_length}
use Rattle.fields.proofs.Laws.Halves.{halves_length, joined_length, joined_halves}
use Rattle.fields.proofs.Laws.Digits.{halves_back, first_digit, some_lead}
use Rattle.fields.proofs.Laws.Text.{lead_le, closed_padded, text_padded, text_length, text_within, padded_text}

back : (t : List ℕ) → 1 ≤ length t → length t ≤ 20 → within 10 t ≡ true → decode (joined (padded 15 20 t)) ≡ done t
unfolding decode numbered within
back t some h w =
    let d = eqb-true (lead 10 t) (length t) w in
    let hs = halves_back 20 t h d 10 refl in
    sym
    (right _ _ _ _ (eq-eqb _ _ (joined_length (padded 15 20 t) 10 (padded_length 15 20 t h)))
    (rw (hs, lt-ltb _ _ (first_digit 20 t h d some), closed_padded 10 15 20 t (omega arith) w)))
    ∙ rw (hs, text_padded 10 15 20 t (omega arith) w)

pub encoded : (t room : List ℕ) → (encode t room).answer ≡ 0 → decode (encode t room).value ≡ done t
unfolding encode writable
encoded t room a =
    let d = was_done _ _ _ _ a in
    let g = both (leb 1 (length t)) (leb (length t) 20 && within 10 t) d.1 in
    let k = both (leb (length t) 20) (within 10 t) g.1 in
    rw (← right (eqb (length room) 10) (writable t) room (joined (padded 15 20 t)) d.0 d.1)
    (back t (leb-true _ _ g.0) (leb-true _ _ k.0) k.1)

forth : (l room : List ℕ) → length l ≡ 10 → length room ≡ 10 → get_or (halves l) 0 0 < 10 → closed 10 15 (halves l) ≡ true
    → encode (text 10 (halves l)) room ≡ done l
unfolding encode writable
forth l room e r first c =
    let hs = halves l in
    let n : length hs ≡ 20 = omega (arith, halves_length l) in
    let k = text_length 10 15 hs in
    sym
    (right _ _ _ _ (eq-eqb _ _ r)
    (rw (
      le-leb 1 (length (text 10 hs)) (omega (arith, k, some_lead 10 hs (omega arith) first)),
      le-leb (length (text 10 hs)) 20 (omega (arith, k, lead_le 10 hs)),
      text_within 10 15 hs,
    )))
    ∙ ap (λ (m : ℕ). done (joined (padded 15 m (text 10 hs)))) (sym n)
    ∙ rw (padded_text 10 15 hs c, joined_halves l)

pub decoded : (l room : List ℕ) → (decode l).answer ≡ 0 → length room ≡ 10 → encode (decode l).value room ≡ done l
unfolding decode numbered
decoded l room a r =
    let d = was_done _ _ _ _ a in
    let g = both (ltb (get_or (halves l) 0 0) 10) (closed 10 15 (halves l)) d.1 in
    rw (← right (eqb (length l) 10) (numbered (halves l)) [] (text 10 (halves l)) d.0 d.1)
    (forth l room (eqb-true _ _ d.0) r (ltb-true _ _ g.0) g.1)
