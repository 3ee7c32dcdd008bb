-- SPN, there and back.
use Prim.Native.Nat.{ℕ, suc, ◌/◌, ◌%◌, ◌≤◌, ◌<◌}
use mathlib.Core.Path.{◌≡◌, refl, ap, ◌∙◌, sym}
use mathlib.Core.List.{List, [], ◌∷◌}
use mathlib.Core.Bool.{Bool, true, false, ◌&&◌}
use native.Mathlib.Omega.{arith}
use borrow.Author.Tests.{eq-eqb, eqb-true, lt-ltb, ltb-true, le-leb, leb-true}
use lib.Dec.{eqb, ltb, leb}
use lib.ListN.{length, get_or, drop}
use Rattle.codings.specs.Answers.{done}
use Rattle.fields.specs.Text.{padded, text, closed, within}
use Rattle.codings.specs.Spn.{Provider, provider, in_file, bits, decode, writable, encode}
use Rattle.codings.proofs.Laws.Answers.{right, was_done}
use Rattle.codings.proofs.Laws.Tests.{both}
use Rattle.fields.proofs.Laws.Fields.{padded_length}
use Rattle.codings.proofs.Laws.Services.{below4}
use Rattle.fields.proofs.Laws.Text.{lead_le, closed_padded, text_padded, text_length, text_within, padded_text}

-- the two bits and their byte
bits_back : (b1 b2 : Bool) → (bits b1 b2 < 4) × ((eqb (bits b1 b2 % 2) 1 ≡ b1) × (eqb (bits b1 b2 / 2) 1 ≡ b2))
unfolding bits
bits_back true true = (omega arith, (refl, refl))
bits_back true false = (omega arith, (refl, refl))
bits_back false true = (omega arith, (refl, refl))
bits_back false false = (omega arith, (refl, refl))

bits_forth : (b : ℕ) → b < 4 → bits (eqb (b % 2) 1) (eqb (b / 2) 1) ≡ b
unfolding bits
bits_forth b h = below4 (λ b. bits (eqb (b % 2) 1) (eqb (b / 2) 1) ≡ b) refl refl refl refl b h

back : (b1 b2 : Bool) (name : List ℕ) → length name ≤ 16 → within 255 name ≡ true
    → decode (bits b1 b2 ∷ padded 255 16 name) ≡ done (provider b1 b2 name)
unfolding decode
back b1 b2 name h w =
    let b = bits_back b1 b2 in
    sym (right _ _ _ _ (eq-eqb _ _ (ap suc (padded_length 255 16 name h))) (rw (lt-ltb _ _ b.0, closed_padded 255 255 16 name (omega arith) w)))
    ∙ rw (b.1.0, b.1.1, text_padded 255 255 16 name (omega arith) w)

pub encoded : (p : Provider) (room : List ℕ) → (encode p room).answer ≡ 0 → decode (encode p room).value ≡ done p
unfolding encode writable
encoded p room a =
    let d = was_done _ _ _ _ a in
    let g = both (leb (length p.name) 16) (within 255 p.name) d.1 in
    rw (← right (eqb (length room) 17) (writable p.name) room (bits p.bit1 p.bit2 ∷ padded 255 16 p.name) d.0 d.1)
    (back p.bit1 p.bit2 p.name (leb-true _ _ g.0) g.1)

forth : (l room : List ℕ) → length l ≡ 17 → length room ≡ 17 → get_or l 0 0 < 4 → closed 255 255 (drop 1 l) ≡ true
    → encode (in_file l) room ≡ done l
unfolding encode writable
forth [] room e r h c = absurd (omega arith)
forth (b ∷ xs) room e r h c =
    sym
    (right _ _ _ _ (eq-eqb _ _ r) (rw (le-leb (length (text 255 xs)) 16 (omega (arith, text_length 255 255 xs, lead_le 255 xs)), text_within 255 255 xs)))
    ∙ rw (bits_forth b h) (ap (λ (n : ℕ). done (b ∷ padded 255 n (text 255 xs))) size ∙ rw (padded_text 255 255 xs c))
  where
    size : 16 ≡ length xs
    size = omega arith

pub decoded : (l room : List ℕ) → (decode l).answer ≡ 0 → length room ≡ 17 → encode (decode l).value room ≡ done l
unfolding decode
decoded l room a r =
    let d = was_done _ _ _ _ a in
    let g = both (ltb (get_or l 0 0) 4) (closed 255 255 (drop 1 l)) d.1 in
    rw (← right (eqb (length l) 17) (ltb (get_or l 0 0) 4 && closed 255 255 (drop 1 l)) (provider false false []) (in_file l) d.0 d.1)
    (forth l room (eqb-true _ _ d.0) r (ltb-true _ _ g.0) g.1)
