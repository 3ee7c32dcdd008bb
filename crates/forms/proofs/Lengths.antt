-- Where no refusal of form holds, P3, the number of a code and the type of SEEK are those that the command takes.
use Prim.Native.Nat.{ℕ, ◌/◌, ◌≤◌, ◌<◌}
use mathlib.Core.Path.{◌≡◌, refl, sym, ap, ◌∙◌}
use mathlib.Core.List.{[], ◌∷◌}
use mathlib.Core.Bool.{Bool, true, false, ◌&&◌, ◌||◌, not, false≢true}
use mathlib.Core.Logic.{◌⊎◌, inl, inr}
use native.Mathlib.Omega.{arith}
use lib.Dec.{eqb, ltb}
use borrow.Author.Tests.{eqb-true, eqb-false, ltb-true, ltb-false}
use Rattle.card.specs.Answers.{Refusal, first, ◌says◌}
use Rattle.card.specs.Forms.{form_of, formed, sent, seek_mode, code_number, exactly, up_to}
use Rattle.card.specs.declared.Instruction.{Instruction}
use Rattle.card.proofs.Tests.{both, one_of, indeed}

-- three refusals of which none holds
clear : (a b : Bool) (r : Refusal) → first (a says 0x6d00 ∷ b says 0x6b00 ∷ r ∷ []) ≡ 0 → (b ≡ false) × (first (r ∷ []) ≡ 0)
unfolding first
clear true b r e = absurd (omega (arith, e))
clear false true r e = absurd (omega (arith, e))
clear false false r e = (refl, e)

unsaid : (b : Bool) (w : ℕ) → (w ≡ 0 → ⊥) → first (b says w ∷ []) ≡ 0 → b ≡ false
unfolding first
unsaid true w n e = absurd (n e)
unsaid false w n e = refl

denied : (b : Bool) → not b ≡ false → b ≡ true
denied true e = refl
denied false e = absurd (false≢true (sym e))

neither : (a b : Bool) → (a || b) ≡ false → (a ≡ false) × (b ≡ false)
neither true b e = absurd (false≢true (sym e))
neither false b e = (refl, e)

module _ (i : Instruction) (p q n : ℕ) (h : first (formed i p q n) ≡ 0) where
  parameters : (form_of i).p1p2 p q ≡ true
  unfolding formed
  parameters = denied _ (clear (not (form_of i).known) _ ((form_of i).p3 n) h).0

  count : first ((form_of i).p3 n ∷ []) ≡ 0
  unfolding formed
  count = (clear (not (form_of i).known) _ ((form_of i).p3 n) h).1

  -- P3 of a command that takes one length, and of one that takes some
  pub exact : (m w : ℕ) → (form_of i).p3 ≡ exactly m w → (w ≡ 0 → ⊥) → n ≡ m
  exact m w e z = eqb-true n m (denied _ (unsaid _ w z (ap (λ (f : ℕ → Refusal). first (f n ∷ [])) (sym e) ∙ count)))

  pub within : (m w : ℕ) → (form_of i).p3 ≡ up_to m w → (w ≡ 0 → ⊥) → (0 < n) × (n ≤ m)
  within m w e z =
      let o = neither _ _ (unsaid _ w z (ap (λ (f : ℕ → Refusal). first (f n ∷ [])) (sym e) ∙ count)) in
      let a = eqb-false n 0 o.0 in
      let b = ltb-false m n o.1 in
      (omega arith, omega arith)

  -- the number of a code
  pub numbered : (a b : ℕ) → (form_of i).p1p2 ≡ code_number a b → (q ≡ a) ⊎ (q ≡ b)
  numbered a b e = go (one_of _ _ (both (eqb p 0) _ (ap (λ (f : ℕ → ℕ → Bool). f p q) (sym e) ∙ parameters)).1)
    where
      go : (eqb q a ≡ true) ⊎ (eqb q b ≡ true) → (q ≡ a) ⊎ (q ≡ b)
      go (inl x) = inl (eqb-true q a x)
      go (inr x) = inr (eqb-true q b x)

  -- the type of SEEK
  pub typed : (form_of i).p1p2 ≡ seek_mode → q / 16 < 2
  typed e =
      ltb-true (q / 16) 2 (both (eqb p 0) _ (both (eqb p 0 && ltb (q / 16) 2) _ (ap (λ (f : ℕ → ℕ → Bool). f p q) (sym e) ∙ parameters)).0).1

  -- how many bytes follow, where they are as many as are sent
  pub following : (d k : ℕ) → (form_of i).sends ≡ true → d ≡ sent i n → n ≡ k → d ≡ k
  unfolding sent
  following d k s e r = e ∙ sym (indeed (form_of i).sends n 0 s) ∙ r
