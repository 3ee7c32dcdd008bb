-- What the commands take for granted follows from the shelf's rules and from a session that fits.
use Rattle.std.specs.Prelude.{ℕ, Option, Some}
use Prim.Native.Nat.{ℕ, ◌%◌, ◌≤◌, ◌<◌}
use mathlib.Core.Path.{◌≡◌, sym, ap, ◌∙◌}
use mathlib.Core.List.{List}
use mathlib.Core.Bool.{Bool, true, false, ◌&&◌, ◌||◌, not, false≢true}
use native.Mathlib.Omega.{arith}
use native.Mathlib.Nat.{div-add-mod'}
use lib.Dec.{eqb, ltb, leb}
use lib.ListN.{length}
use borrow.Author.Tests.{eqb-true, ltb-true, leb-true}
use Rattle.card.specs.Layout.{transparent, cyclic, records}
use Rattle.card.specs.Shelf.{all, records_rule, top_rule}
use Rattle.card.specs.Sessions.{pointed}
use Rattle.card.specs.declared.Entry.{Entry}
use Rattle.commands_records.specs.Stands.{Recorded, Stands}
use Rattle.card.proofs.Tests.{both}

-- the second of two tests, where the first fails
pub second : (a b : Bool) → (a || b) ≡ true → a ≡ false → b ≡ true
second true b h n = absurd (false≢true (sym n))
second false b h n = h

topmost : (c : Bool) (t n : ℕ) → 0 < n → elim c [ true ↦ ltb t n | false ↦ eqb t 0 ] ≡ true → t < n
topmost true t n o h = ltb-true t n h
topmost false t n o h = omega (arith, eqb-true t 0 h)

-- a file with records
pub recorded_by : (e : Entry) → records_rule e ≡ true → top_rule e ≡ true → Recorded e
unfolding records_rule top_rule all
recorded_by e h t =
    let a : (ltb 0 e.width ≡ true) × (_ ≡ true) = both _ _ h in
    let b : (eqb (e.size % e.width) 0 ≡ true) × (_ ≡ true) = both _ _ a.1 in
    let c : (ltb 0 (records e) ≡ true) × (_ ≡ true) = both _ _ b.1 in
    let d : (ltb (records e) 255 ≡ true) × (_ ≡ true) = both _ _ c.1 in
    let some : 0 < records e = ltb-true _ _ c.0 in
    record {
      width = ltb-true _ _ a.0;
      some = some;
      few = ltb-true _ _ d.0;
      whole = omega (arith, div-add-mod' e.size e.width, eqb-true (e.size % e.width) 0 b.0);
      topmost = topmost (cyclic e) e.top (records e) some t;
    }

within : (e : Entry) (p : Option ℕ) (k : ℕ) → pointed e p ≡ true → p ≡ Some k → k ≤ records e
unfolding pointed
within e p k h q =
    let a : pointed e (Some k) ≡ true = ap (pointed e) (sym q) ∙ h in
    leb-true k (records e) (both (not (transparent e) && ltb 0 k) (leb k (records e)) a).1

-- the current file, its bytes and the pointer
pub standing : (e : Entry) (b : List ℕ) (p : Option ℕ) → length b ≡ e.size → (transparent e || records_rule e) ≡ true → top_rule e ≡ true → pointed e p ≡ true
    → Stands e b p
standing e b p full rule top points =
    record { full = full; recorded = λ t. recorded_by e (second (transparent e) (records_rule e) rule t) top; pointed = λ k q. within e p k points q }
