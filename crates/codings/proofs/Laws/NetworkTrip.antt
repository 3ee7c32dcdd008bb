-- Networks, there and back.
use Prim.Native.Nat.{ℕ, ◌+◌, ◌*◌, ◌/◌, ◌%◌, ◌<◌}
use mathlib.Core.Path.{◌≡◌, refl, ap, ◌∙◌, sym}
use mathlib.Core.List.{List, [], ◌∷◌}
use mathlib.Core.Bool.{Bool, true, false, ◌&&◌, ◌||◌}
use native.Mathlib.Omega.{arith}
use borrow.Author.Tests.{eq-eqb, lt-ltb, ltb-true, eqb-true}
use lib.Dec.{eqb}
use lib.ListN.{length, get_or, take, drop}
use Rattle.std.specs.Prelude.{Option, Some, None}
use Rattle.codings.specs.Answers.{done}
use Rattle.fields.specs.Halves.{halves, joined}
use Rattle.fields.specs.Text.{lead, filled}
use Rattle.codings.specs.Network.{plmn, named, network, entry_in, decode, writable, bytes, encode}
use Rattle.codings.specs.declared.network.Network.{Network}
use Rattle.codings.proofs.Laws.Answers.{right, was_done}
use Rattle.codings.proofs.Laws.Tests.{both}
use Rattle.fields.proofs.Laws.Halves.{pair}
use Rattle.fields.proofs.Laws.Fields.{lead_below, filled_is, lead_none, goes_on, ends, broken}
use Rattle.codings.proofs.Laws.Network.{free, is_named, is_network}

-- six halves of a network are named
six : (a b c d e : ℕ) → a < 10 → b < 10 → c < 10 → d < 10 → e < 10 → true ≡ named (a ∷ b ∷ c ∷ 15 ∷ d ∷ e ∷ [])
six a b c d e ha hb hc hd he =
    is_named (a ∷ b ∷ c ∷ 15 ∷ d ∷ e ∷ []) 3
    (rw (
      goes_on 10 a (b ∷ c ∷ 15 ∷ d ∷ e ∷ []) ha,
      goes_on 10 b (c ∷ 15 ∷ d ∷ e ∷ []) hb,
      goes_on 10 c (15 ∷ d ∷ e ∷ []) hc,
      ends 10 15 (d ∷ e ∷ []) (omega arith),
    ))
    2 refl refl
    (rw (goes_on 10 d (e ∷ []) hd, goes_on 10 e [] he, lead_none 10))
    refl

same : (m n m' n' : ℕ) → m ≡ m' → n ≡ n' → plmn m n 2 ≡ plmn m' n' 2
same m n m' n' p q = rw (p, q)

-- a network's bytes read back
numbered : (mcc mnc : ℕ) → mcc < 1000 → mnc < 100 → decode (bytes (plmn mcc mnc 2)) ≡ done (plmn mcc mnc 2)
unfolding bytes halves joined network
numbered mcc mnc p q =
    sym
    (is_network _ refl false (sym (broken 255 (a + 16 * b) _ (λ z. omega arith)))
    (a ∷ b ∷ c ∷ 15 ∷ d ∷ e ∷ [])
    (sym (pair a b (c ∷ 15 ∷ d ∷ e ∷ []) (omega arith) ∙ rw (pair c 15 (d ∷ e ∷ []) (omega arith), pair d e [] (omega arith))))
    true (six a b c d e (omega arith) (omega arith) (omega arith) (omega arith) (omega arith))
    (plmn mcc mnc 2) (same _ _ _ _ (omega arith) (omega arith)) refl refl)
  where
    a : ℕ
    a = mcc / 100

    b : ℕ
    b = mcc / 10 % 10

    c : ℕ
    c = mcc % 10

    d : ℕ
    d = mnc / 10

    e : ℕ
    e = mnc % 10

-- an entry that is written reads back
back : (e : Option Network) → writable e ≡ true → decode (bytes e) ≡ done e
unfolding writable bytes filled
back None w = sym (free _ refl true refl refl)
back (Some n) w =
    let g = both _ _ w in
    let h = both _ _ g.1 in
    numbered n.mcc n.mnc (ltb-true _ _ g.0) (ltb-true _ _ h.0) ∙ ap (λ (k : ℕ). done (plmn n.mcc n.mnc k)) (sym (eqb-true n.digits 2 h.1))

pub encoded : (e : Option Network) (room : List ℕ) → (encode e room).answer ≡ 0 → decode (encode e room).value ≡ done e
unfolding encode
encoded e room a =
    let d = was_done _ _ _ _ a in
    rw (← right (eqb (length room) 3) (writable e) room (bytes e) d.0 d.1) (back e d.1)

-- Three halves, F, and two halves, as the test tells.
pub record Six (hs : List ℕ) : Type 0 where
  pub mcc : lead 10 hs ≡ 3
  pub f : get_or hs 3 0 ≡ 15
  pub mnc : lead 10 (take 2 (drop 4 hs)) ≡ 2

told : (hs : List ℕ) → named hs ≡ true → Six hs
unfolding named
told hs n =
    let g = both (eqb (lead 10 hs) 3) (eqb (get_or hs 3 0) 15 && eqb (lead 10 (take 2 (drop 4 hs))) 2) n in
    let h = both (eqb (get_or hs 3 0) 15) (eqb (lead 10 (take 2 (drop 4 hs))) 2) g.1 in
    record { mcc = eqb-true _ _ g.0; f = eqb-true _ _ h.0; mnc = eqb-true _ _ h.1 }

-- what three bytes name can be written, and gives the bytes again
forth : (x y z : ℕ) → Six (halves (x ∷ y ∷ z ∷ []))
    → (writable (network (halves (x ∷ y ∷ z ∷ []))) ≡ true) × (bytes (network (halves (x ∷ y ∷ z ∷ []))) ≡ x ∷ y ∷ z ∷ [])
unfolding network writable bytes halves joined
forth x y z t =
    let a : x % 16 < 10 = lead_below 10 (halves (x ∷ y ∷ z ∷ [])) 0 (omega (arith, t.mcc)) in
    let b : x / 16 < 10 = lead_below 10 (halves (x ∷ y ∷ z ∷ [])) 1 (omega (arith, t.mcc)) in
    let c : y % 16 < 10 = lead_below 10 (halves (x ∷ y ∷ z ∷ [])) 2 (omega (arith, t.mcc)) in
    let f : y / 16 ≡ 15 = t.f in
    let d : z % 16 < 10 = lead_below 10 (z % 16 ∷ z / 16 ∷ []) 0 (omega (arith, t.mnc)) in
    let e : z / 16 < 10 = lead_below 10 (z % 16 ∷ z / 16 ∷ []) 1 (omega (arith, t.mnc)) in (
      rw (lt-ltb (100 * (x % 16) + 10 * (x / 16) + y % 16) 1000 (omega arith), lt-ltb (10 * (z % 16) + z / 16) 100 (omega arith)),
      list _ _ _ _ _ _ (omega arith) (omega arith) (omega arith),
    )
  where
    list : (a b c a' b' c' : ℕ) → a ≡ a' → b ≡ b' → c ≡ c' → a ∷ b ∷ c ∷ [] ≡ a' ∷ b' ∷ c' ∷ []
    list a b c a' b' c' p q r = rw (p, q, r)

-- the entry that is read can be written, and gives the bytes again
again : (l : List ℕ) → length l ≡ 3 → filled 255 l || named (halves l) ≡ true
    → (writable (entry_in l) ≡ true) × (bytes (entry_in l) ≡ l)
unfolding entry_in writable bytes
again (x ∷ y ∷ z ∷ []) e v = go (filled 255 (x ∷ y ∷ z ∷ [])) refl v
  where
    go : (t : Bool) → filled 255 (x ∷ y ∷ z ∷ []) ≡ t → t || named (halves (x ∷ y ∷ z ∷ [])) ≡ true
        → (writable (elim t [ true ↦ None | false ↦ network (halves (x ∷ y ∷ z ∷ [])) ]) ≡ true)
        × (bytes (elim t [ true ↦ None | false ↦ network (halves (x ∷ y ∷ z ∷ [])) ]) ≡ x ∷ y ∷ z ∷ [])
    go true p v = (refl, sym (filled_is 255 (x ∷ y ∷ z ∷ []) p))
    go false p v = forth x y z (told _ v)
again (x ∷ y ∷ z ∷ w ∷ l) e v = absurd (omega arith)
again (x ∷ y ∷ []) e v = absurd (omega arith)
again (x ∷ []) e v = absurd (omega arith)
again [] e v = absurd (omega arith)

pub decoded : (l room : List ℕ) → (decode l).answer ≡ 0 → length room ≡ 3 → encode (decode l).value room ≡ done l
unfolding decode encode
decoded l room a r =
    let d = was_done _ _ _ _ a in
    let g = again l (eqb-true _ _ d.0) d.1 in
    rw (← right (eqb (length l) 3) (filled 255 l || named (halves l)) None (entry_in l) d.0 d.1)
    (sym (right (eqb (length room) 3) (writable (entry_in l)) room (bytes (entry_in l)) (eq-eqb _ _ r) g.0) ∙ ap done g.1)
