-- An unknown operation is answered by the file's length.
use Prim.Native.Nat.{ℕ}
use mathlib.Core.Path.{◌≡◌, refl, ap, ◌∙◌, sym}
use mathlib.Core.List.{List, []}
use mathlib.Core.Bool.{Bool, true, false}
use borrow.Author.Tests.{eqb-true}
use lib.Dec.{eqb}
use Rattle.codings.specs.Answers.{Outcome, outcome, done, judge}
use Rattle.codings.specs.Iccid.{decode as iccid_in}
use Rattle.codings.specs.Imsi.{decode as imsi_in}
use Rattle.codings.specs.Network.{decode as network_in}
use Rattle.codings.specs.Services.{read as service_in}
use Rattle.codings.specs.Spn.{decode as spn_in}
use Rattle.codings.specs.Admin.{decode as admin_in}
use Rattle.cases.specs.Choice.{choose}
use Rattle.cases.specs.Shown.{shown, alone, refusal}
use Rattle.cases.specs.Cases.{decode, other}
use Rattle.cases.specs.Lengths.{Lengths}

-- a judgement is refused by the length alone
judged : {A : Type 0} (fits valid : Bool) (left v : A) → refusal (judge fits valid left v).answer ≡ choose fits 6 5
unfolding judge refusal choose
judged true true left v = refl
judged true false left v = refl
judged false valid left v = refl

-- what is shown keeps the answer
kept : {A : Type 0} (bytes : A → List ℕ) (o : Outcome A) → (shown bytes o).answer ≡ o.answer
unfolding shown choose
kept bytes o = go (eqb o.answer 0) refl
  where
    go : (t : Bool) → eqb o.answer 0 ≡ t → (choose t (done (bytes o.value)) (outcome o.answer [])).answer ≡ o.answer
    go true e = sym (eqb-true _ _ e)
    go false e = refl

shows : {A : Type 0} (bytes : A → List ℕ) (fits valid : Bool) (left v : A)
    → refusal (shown bytes (judge fits valid left v)).answer ≡ choose fits 6 5
shows bytes fits valid left v = ap refusal (kept bytes (judge fits valid left v)) ∙ judged fits valid left v

-- a decode without a value stands alone
bare : (o : Outcome (List ℕ)) (n : ℕ) → refusal o.answer ≡ n → refusal (alone 0 o).answer ≡ n
unfolding alone choose
bare o n e = e

six : refusal 6 ≡ 6
unfolding refusal choose
six = refl

pub lengths : Lengths
unfolding other decode iccid_in imsi_in network_in service_in spn_in admin_in
lengths =
    record {
      iccid = λ file. bare _ _ (judged _ _ _ _);
      imsi = λ file. bare _ _ (judged _ _ _ _);
      network = λ file. bare _ _ (shows _ _ _ _ _);
      services = λ file. shows _ _ _ _ _;
      spn = λ file. bare _ _ (shows _ _ _ _ _);
      admin = λ file. bare _ _ (shows _ _ _ _ _);
      unknown = λ file. six;
    }
