-- Laws of words of marks: which bits are raised after one more is.
use Prim.Native.Nat.{ℕ, zero, suc, ◌+◌, ◌*◌, ◌/◌, ◌%◌, ◌^◌, ◌<◌}
use mathlib.Core.Path.{◌≡◌, refl, sym, ap, ◌∙◌}
use mathlib.Core.List.{List}
use mathlib.Core.Bool.{Bool, true, false, ◌||◌}
use mathlib.Core.Logic.{⊎_elim}
use native.Mathlib.Omega.{arith}
use native.Mathlib.Nat.{div-eq_of_lt, div-one, mod-lt}
use borrow.Author.Tests.{eqb-true, eqb-false, eq-eqb, ne_eqb}
use lib.Bits.{bit_or, or_shr, or_mod, shifted_half, shifted_even}
use lib.Dec.{eqb, eqb-suc-suc}
use lib.ListN.{length, get_or, set, length-set}
use lib.Pow.{shl_exact, shr-shr, pow-lt}
use lib.Seq.{get_or-set_same, get_or-set_other}
use Rattle.card.specs.Bytes.{bit}
use Rattle.card.proofs.Tests.{decided, same_test}
use Rattle.shelf_check.specs.Marks.{raised, marked, Adds}

-- two tests of equal numbers that hold together
equal_tests : (a b a' b' : ℕ) → (a ≡ b → a' ≡ b') → (a' ≡ b' → a ≡ b) → eqb a b ≡ eqb a' b'
equal_tests a b a' b' p q =
    same_test _ _ (λ t. eq-eqb _ _ (p (eqb-true _ _ t))) (λ t. eq-eqb _ _ (q (eqb-true _ _ t)))

-- a word with one bit has that bit and no other
one_bit : (n k : ℕ) → 1 * 2 ^ n / 2 ^ k % 2 ≡ bit (eqb n k)
one_bit zero zero = refl
one_bit zero (suc k) = rw (div-eq_of_lt {n = 1} {m = 2 ^ suc k} (pow-lt {i = 0} {j = suc k} (omega arith)), ne_eqb 0 (suc k) (λ e. omega arith))
one_bit (suc n) zero = rw (div-one (1 * 2 ^ suc n), shifted_even 1 n, ne_eqb (suc n) 0 (λ e. omega arith))
one_bit (suc n) (suc k) =
    let more : suc k ≡ 1 + k = omega arith in
    ap (λ j. 1 * 2 ^ suc n / 2 ^ j % 2) more
    ∙ ap (λ x. x % 2) (sym (shr-shr (1 * 2 ^ suc n) 1 k))
    ∙ ap (λ x. x / 2 ^ k % 2) (shifted_half 1 n)
    ∙ one_bit n k
    ∙ ap bit (sym (eqb-suc-suc n k))

-- a bit of two words together
either : (w : ℕ) (t : Bool) → w < 2 → eqb (bit_or w (bit t)) 1 ≡ (t || eqb w 1)
either zero true h = refl
either zero false h = refl
either (suc zero) true h = refl
either (suc zero) false h = refl
either (suc (suc w)) t h = absurd (omega arith)

raise : (w n k : ℕ) → n < 32 → raised (bit_or w (1 * 2 ^ n % 4294967296)) k ≡ (eqb n k || raised w k)
unfolding raised
raise w n k h =
    ap (λ p. eqb (bit_or w p / 2 ^ k % 2) 1) (shl_exact {a = 1} 1 n 32 (omega arith) (omega arith))
    ∙ ap (λ x. eqb (x % 2) 1) (or_shr w (1 * 2 ^ n) k)
    ∙ ap (λ x. eqb x 1) (or_mod (w / 2 ^ k) (1 * 2 ^ n / 2 ^ k) 1)
    ∙ ap (λ x. eqb (bit_or (w / 2 ^ k % 2) x) 1) (one_bit n k)
    ∙ either (w / 2 ^ k % 2) (eqb n k) (mod-lt (w / 2 ^ k) (omega arith))

-- The marks after a key is marked too.
module _ (m : List ℕ) (key : ℕ) (small : key < 8192) (long : length m ≡ 256) where
  after : List ℕ
  after = set m (key / 32) (bit_or (get_or m (key / 32) 0) (1 * 2 ^ (key % 32) % 4294967296))

  here : (x : ℕ) → x / 32 ≡ key / 32 → marked after x ≡ (eqb key x || marked m x)
  unfolding after marked
  here x e =
      let low : eqb (key % 32) (x % 32) ≡ eqb key x = equal_tests (key % 32) (x % 32) key x (λ h. omega arith) (λ h. omega arith) in
      ap (λ j. raised (get_or after j 0) (x % 32)) e
      ∙ ap (λ w. raised w (x % 32)) (get_or-set_same m (key / 32) _ 0 (omega arith))
      ∙ raise (get_or m (key / 32) 0) (key % 32) (x % 32) (mod-lt key (omega arith))
      ∙ ap (λ t. t || raised (get_or m (key / 32) 0) (x % 32)) low
      ∙ ap (λ j. eqb key x || raised (get_or m j 0) (x % 32)) (sym e)

  there : (x : ℕ) → (x / 32 ≡ key / 32 → ⊥) → marked after x ≡ (eqb key x || marked m x)
  unfolding after marked
  there x n =
      ap (λ w. raised w (x % 32)) (get_or-set_other m (key / 32) (x / 32) _ 0 n)
      ∙ sym (ap (λ t. t || raised (get_or m (x / 32) 0) (x % 32)) (ne_eqb key x (λ h. n (ap (λ k. k / 32) (sym h)))))

  pub adds : Adds m key (set m (key / 32) (bit_or (get_or m (key / 32) 0) (1 * 2 ^ (key % 32) % 4294967296)))
  unfolding after
  adds = record { size = length-set m _ _ ∙ long; at = λ x h. ⊎_elim (λ t. here x (eqb-true _ _ t)) (λ t. there x (eqb-false _ _ t)) (decided (eqb (x / 32) (key / 32))) }
