-- What a command of the right form, and a session that fits, give the commands.
use Prim.Native.Nat.{ℕ, ◌-◌, ◌/◌, ◌≤◌, ◌<◌}
use mathlib.Core.Path.{◌≡◌, refl, subst}
use mathlib.Core.List.{List}
use mathlib.Core.Bool.{true, false, ◌&&◌}
use mathlib.Core.Logic.{◌⊎◌, inl, inr}
use native.Mathlib.Omega.{arith}
use lib.Dec.{eqb, leb, ltb}
use lib.ListN.{length}
use borrow.Author.Tests.{eqb-false, leb-true}
use Rattle.card.specs.Forms.{form_of, code_number, exactly}
use Rattle.card.specs.Layout.{index, head}
use Rattle.card.specs.Sessions.{fits, padded, stands}
use Rattle.card.specs.declared.Instruction.{Instruction}
use Rattle.card.specs.declared.Instruction.TheVariants.{Status, Seek, Increase, Verify, Change, Disable, Enable, Unblock}
use Rattle.card.specs.declared.Session.{Session}
use Rattle.card.proofs.Tests.{both}
use Rattle.acts.specs.Ready.{Ready}
use Rattle.forms.proofs.Lengths.{exact, within, numbered, typed, following}
use Rattle.acting.specs.Right.{Right}

module _ {i : Instruction} {p q n : ℕ} {d : List ℕ} (r : Right i p q n d) where
  turned : (j : Instruction) → i ≡ j → Right j p q n d
  turned j e = subst (λ (x : Instruction). Right x p q n d) e r

  -- the data of a command that takes one length
  sized : (j : Instruction) (m w : ℕ) → i ≡ j → (form_of j).p3 ≡ exactly m w → (form_of j).sends ≡ true → eqb w 0 ≡ false → length d ≡ m
  sized j m w e x y z =
      let t = turned j e in
      following j p q n t.form (length d) m y t.sends (exact j p q n t.form m w x (eqb-false w 0 z))

  -- the code that VERIFY and CHANGE name
  named : (j : Instruction) → i ≡ j → (form_of j).p1p2 ≡ code_number 1 2 → (1 ≤ q) × (q - 1 < 2)
  named j e x = go (numbered j p q n (turned j e).form 1 2 x)
    where
      go : (q ≡ 1) ⊎ (q ≡ 2) → (1 ≤ q) × (q - 1 < 2)
      go (inl h) = (omega arith, omega arith)
      go (inr h) = (omega arith, omega arith)

  pub seeks : i ≡ Seek → q / 16 < 2
  seeks e = typed Seek p q n (turned Seek e).form refl

  pub verifies : i ≡ Verify → (1 ≤ q) × ((q - 1 < 2) × (length d ≡ 8))
  verifies e = let c = named Verify e refl in (c.0, (c.1, sized Verify 8 0x6708 e refl refl refl))

  pub changes : i ≡ Change → (1 ≤ q) × ((q - 1 < 2) × (length d ≡ 16))
  changes e = let c = named Change e refl in (c.0, (c.1, sized Change 16 0x6710 e refl refl refl))

  pub disables : i ≡ Disable → length d ≡ 8
  disables e = sized Disable 8 0x6708 e refl refl refl

  pub enables : i ≡ Enable → length d ≡ 8
  enables e = sized Enable 8 0x6708 e refl refl refl

  pub unblocks : i ≡ Unblock → (q / 2 < 2) × (length d ≡ 16)
  unblocks e = (go (numbered Unblock p q n (turned Unblock e).form 0 2 refl), sized Unblock 16 0x6710 e refl refl refl)
    where
      go : (q ≡ 0) ⊎ (q ≡ 2) → q / 2 < 2
      go (inl h) = omega arith
      go (inr h) = omega arith

  pub increases : i ≡ Increase → length d ≡ 3
  increases e = sized Increase 3 0x6703 e refl refl refl

  pub asks : i ≡ Status → n ≤ 22
  asks e = (within Status p q n (turned Status e).form 22 0x6716 refl (λ z. omega (arith, z))).1

-- what waits is at most 22 bytes
pub waiting : (l : List ℕ) (s : Session) → Ready l s → s.count ≤ 22
unfolding fits padded
waiting l s r =
    let before = ltb s.directory (index (head l)).directories && stands (head l) s.directory s.current s.pointer in
    leb-true s.count 22 (both (leb s.count 22) _ (both before (padded s.waiting s.count) r.session).1).0
