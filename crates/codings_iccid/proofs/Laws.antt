-- The digits of an ICCID with F's after them are halves of its bytes.
use Prim.Native.Nat.{ℕ}
use mathlib.Core.Path.{◌≡◌, ap, ◌∙◌}
use mathlib.Core.List.{List}
use mathlib.Core.Bool.{true, ◌&&◌}
use borrow.Author.Tests.{eqb-true, leb-true}
use lib.Dec.{leb}
use lib.ListN.{length}
use Rattle.fields.specs.Halves.{Halved}
use Rattle.fields.specs.Text.{padded, within}
use Rattle.codings.specs.Iccid.{writable}
use Rattle.codings.proofs.Laws.Tests.{both}
use Rattle.fields.proofs.Laws.Fields.{padded_length}
use Rattle.fields.proofs.Laws.Digits.{padded_small}

pub joins : (digits room hs : List ℕ) → length room ≡ 10 → writable digits ≡ true → hs ≡ padded 15 20 digits → Halved hs room
unfolding writable within
joins digits room hs fits w e =
    let g = both (leb 1 (length digits)) (leb (length digits) 20 && within 10 digits) w in
    let h = both (leb (length digits) 20) (within 10 digits) g.1 in
    let few = leb-true _ _ h.0 in
    record {
      twice = ap length e ∙ padded_length 15 20 digits few ∙ rw fits;
      small = rw e (padded_small 20 digits few (eqb-true _ _ h.1));
    }
