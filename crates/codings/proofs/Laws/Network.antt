-- Networks: what six halves name, and each file that decodes.
use Prim.Native.Nat.{ℕ}
use mathlib.Core.Path.{◌≡◌, ap, ◌∙◌, sym}
use mathlib.Core.List.{List}
use mathlib.Core.Bool.{Bool, true, false}
use borrow.Author.Tests.{eq-eqb}
use lib.ListN.{length, get_or, take, drop}
use Rattle.codings.specs.Answers.{done}
use Rattle.fields.specs.Halves.{halves}
use Rattle.fields.specs.Text.{lead, filled}
use Rattle.codings.specs.Network.{named, network, entry_in, decode}
use Rattle.std.specs.Prelude.{Option, None}
use Rattle.codings.specs.declared.network.Network.{Network}
use Rattle.codings.proofs.Laws.Answers.{right}

-- m is how many digits lead the six halves, n how many lead the last two
module _ (hs : List ℕ) (m : ℕ) (em : m ≡ lead 10 hs) where
  pub is_named : (n : ℕ) → m ≡ 3 → get_or hs 3 0 ≡ 15 → n ≡ lead 10 (take 2 (drop 4 hs)) → n ≡ 2 → true ≡ named hs
  unfolding named
  is_named n h f en k = rw (← em, eq-eqb _ _ h, eq-eqb _ _ f, ← en, eq-eqb _ _ k)

chosen : (l : List ℕ) (t : Bool) → t ≡ filled 255 l → elim t [ true ↦ None | false ↦ network (halves l) ] ≡ entry_in l
unfolding entry_in
chosen l t e = ap (λ (b : Bool). elim b [ true ↦ None | false ↦ network (halves l) ]) e

-- hs are the halves, t and n the tests' answers
module _ (l : List ℕ) (e : length l ≡ 3) (t : Bool) (et : t ≡ filled 255 l) where
  pub free : t ≡ true → done None ≡ decode l
  unfolding decode entry_in
  free f = ap done (chosen l true (sym f ∙ et)) ∙ right _ _ _ _ (eq-eqb _ _ e) (rw (← et, f))

  module _ (hs : List ℕ) (eh : hs ≡ halves l) (n : Bool) (en : n ≡ named hs) where
    pub is_network : (p : Option Network) → p ≡ network hs → t ≡ false → n ≡ true → done p ≡ decode l
    unfolding decode entry_in
    is_network p ep f g =
        ap done (ep ∙ ap network eh ∙ chosen l false (sym f ∙ et)) ∙ right _ _ _ _ (eq-eqb _ _ e) (rw (← et, ← eh, ← en, f, g))
