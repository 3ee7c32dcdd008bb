-- The service table, there and back.
use Prim.Native.Nat.{ℕ, ◌+◌, ◌-◌, ◌*◌, ◌/◌, ◌%◌, ◌^◌, ◌≤◌, ◌<◌}
use mathlib.Core.Path.{◌≡◌, refl, ap, ◌∙◌, sym}
use mathlib.Core.List.{List}
use native.Mathlib.Omega.{arith}
use native.Mathlib.Decide.{ℕ_discrete}
use borrow.Author.Tests.{leb-true}
use lib.Dec.{leb}
use lib.ListN.{length, get_or, set, length-set}
use lib.Seq.{get_or-set_same, get_or-set_other, set-get_or}
use Rattle.codings.specs.Answers.{done}
use Rattle.codings.specs.Services.{unit, pair_of, said, says, changed, read, write}
use Rattle.codings.specs.declared.services.Service.{Service}
use Rattle.codings.specs.declared.services.Service.TheVariants.{NotAllocated, Allocated, Activated}
use Rattle.codings.proofs.Laws.Answers.{was_done}
use Rattle.codings.proofs.Laws.Tests.{both}
use Rattle.codings.proofs.Laws.Services.{below4, by_unit, pair_small, not_allocated, none, reads, writes}

-- what two bits say, and the bits that say it
says_small : (v : Service) (p : ℕ) → p < 4 → says v p < 4
unfolding says
says_small NotAllocated p h = omega arith
says_small Allocated p h = omega arith
says_small Activated p h = omega arith

said_says : (v : Service) (p : ℕ) → said (says v p) ≡ v
unfolding says said
said_says NotAllocated p = sym (not_allocated (p / 2 * 2) (omega arith))
said_says Allocated p = refl
said_says Activated p = refl

says_said : (p : ℕ) → p < 4 → says (said p) p ≡ p
unfolding says said
says_said p h = below4 (λ p. says (said p) p ≡ p) refl refl refl refl p h

-- a byte in which the two bits at place i are q
put : ℕ → ℕ → ℕ → ℕ
put b i q = b - pair_of b i * unit i + q * unit i

put_there : (b i q : ℕ) → q < 4 → pair_of (put b i q) i ≡ q
unfolding put pair_of
put_there b i q h = by_unit (λ u. (b - b / u % 4 * u + q * u) / u % 4 ≡ q) (omega arith) (omega arith) (omega arith) (omega arith) i

put_same : (b i : ℕ) → put b i (pair_of b i) ≡ b
unfolding put pair_of
put_same b i = by_unit (λ u. b - b / u % 4 * u + b / u % 4 * u ≡ b) (omega arith) (omega arith) (omega arith) (omega arith) i

put_elsewhere : (b i j q : ℕ) → q < 4 → (j % 4 ≡ i % 4 → ⊥) → pair_of (put b i q) j ≡ pair_of b j
unfolding put pair_of unit
put_elsewhere b i j q h = at_places (i % 4) (j % 4) (omega arith) (omega arith)
  where
    Kept : ℕ → ℕ → Type 0
    Kept r s = (s ≡ r → ⊥) → (b - b / 4 ^ r % 4 * 4 ^ r + q * 4 ^ r) / 4 ^ s % 4 ≡ b / 4 ^ s % 4

    at_places : (r s : ℕ) → r < 4 → s < 4 → Kept r s
    at_places r s hr hs =
        below4 (λ r. Kept r s)
        (below4 (λ s. Kept 0 s) (λ n. absurd (n refl)) (λ n. omega arith) (λ n. omega arith) (λ n. omega arith) s hs)
        (below4 (λ s. Kept 1 s) (λ n. omega arith) (λ n. absurd (n refl)) (λ n. omega arith) (λ n. omega arith) s hs)
        (below4 (λ s. Kept 2 s) (λ n. omega arith) (λ n. omega arith) (λ n. absurd (n refl)) (λ n. omega arith) s hs)
        (below4 (λ s. Kept 3 s) (λ n. omega arith) (λ n. omega arith) (λ n. omega arith) (λ n. absurd (n refl)) s hs)
        r hr

-- What is known where a service was written.
pub record Put (l : List ℕ) (n : ℕ) (v : Service) : Type 0 where
  pub long : 2 ≤ length l
  pub some : n ≡ 0 → ⊥
  pub inside : (n - 1) / 4 < length l
  pub is : write l n v ≡ done (set l ((n - 1) / 4) (changed (get_or l ((n - 1) / 4) 0) (n - 1) v))

fits : (l : List ℕ) (n : ℕ) (v : Service) → 2 ≤ length l → 1 ≤ n → n ≤ 4 * length l → Put l n v
fits l n v h one end =
    record { long = h; some = λ z. omega arith; inside = omega arith; is = sym (writes l n v h (λ z. omega arith) _ (omega arith) refl) }

was_put : (l : List ℕ) (n : ℕ) (v : Service) → (write l n v).answer ≡ 0 → Put l n v
unfolding write
was_put l n v a =
    let d = was_done _ _ _ _ a in
    let g = both (leb 1 n) (leb n (4 * length l)) d.1 in
    fits l n v (leb-true _ _ d.0) (leb-true _ _ g.0) (leb-true _ _ g.1)

module _ (l : List ℕ) (n : ℕ) (v : Service) (w : Put l n v) where
  back : read (set l ((n - 1) / 4) (changed (get_or l ((n - 1) / 4) 0) (n - 1) v)) n ≡ done v
  unfolding changed put
  back =
      let b = get_or l ((n - 1) / 4) 0 in
      let q = says v (pair_of b (n - 1)) in
      sym
      (reads (set l ((n - 1) / 4) (changed b (n - 1) v)) n (simp length-set w.long) w.some q v
      (sym (ap (λ (x : ℕ). pair_of x (n - 1)) (get_or-set_same l ((n - 1) / 4) _ 0 w.inside) ∙ put_there b (n - 1) q (says_small v _ (pair_small b (n - 1)))))
      (sym (said_says v _)))

  kept_pair : (m : ℕ) → 1 ≤ m → (m ≡ n → ⊥)
      → pair_of (get_or (set l ((n - 1) / 4) (changed (get_or l ((n - 1) / 4) 0) (n - 1) v)) ((m - 1) / 4) 0) (m - 1)
      ≡ pair_of (get_or l ((m - 1) / 4) 0) (m - 1)
  unfolding changed put
  kept_pair m one o = go (ℕ_discrete ((m - 1) / 4) ((n - 1) / 4))
    where
      b : ℕ
      b = get_or l ((n - 1) / 4) 0

      apart : (m - 1) % 4 ≡ (n - 1) % 4 → (m - 1) / 4 ≡ (n - 1) / 4 → m ≡ n
      apart z e = let s = w.some in omega arith

      go : Dec ((m - 1) / 4 ≡ (n - 1) / 4)
          → pair_of (get_or (set l ((n - 1) / 4) (changed b (n - 1) v)) ((m - 1) / 4) 0) (m - 1) ≡ pair_of (get_or l ((m - 1) / 4) 0) (m - 1)
      go (yes e) =
          ap (λ (k : ℕ). pair_of (get_or (set l ((n - 1) / 4) (changed b (n - 1) v)) k 0) (m - 1)) e
          ∙ ap (λ (x : ℕ). pair_of x (m - 1)) (get_or-set_same l ((n - 1) / 4) _ 0 w.inside)
          ∙ put_elsewhere b (n - 1) (m - 1) _ (says_small v _ (pair_small b (n - 1))) (λ z. o (apart z e))
          ∙ ap (λ (k : ℕ). pair_of (get_or l k 0) (m - 1)) (sym e)
      go (no ne) = ap (λ (x : ℕ). pair_of x (m - 1)) (get_or-set_other l ((n - 1) / 4) ((m - 1) / 4) _ 0 ne)

  others : (m : ℕ) → (m ≡ n → ⊥) → read (set l ((n - 1) / 4) (changed (get_or l ((n - 1) / 4) 0) (n - 1) v)) m ≡ read l m
  others m o = go (ℕ_discrete m 0)
    where
      long : 2 ≤ length (set l ((n - 1) / 4) (changed (get_or l ((n - 1) / 4) 0) (n - 1) v))
      long = simp length-set w.long

      go : Dec (m ≡ 0) → read (set l ((n - 1) / 4) (changed (get_or l ((n - 1) / 4) 0) (n - 1) v)) m ≡ read l m
      go (yes z) = sym (none _ m long z) ∙ none l m w.long z
      go (no z) =
          sym (reads _ m long z _ _ (sym (kept_pair m (omega arith) o)) refl)
          ∙ reads l m w.long z (pair_of (get_or l ((m - 1) / 4) 0) (m - 1)) _ refl refl

pub written : (l : List ℕ) (n : ℕ) (v : Service) → (write l n v).answer ≡ 0 → read (write l n v).value n ≡ done v
written l n v a = let w = was_put l n v a in rw w.is (back l n v w)

pub untouched : (l : List ℕ) (n m : ℕ) (v : Service) → (write l n v).answer ≡ 0 → ¬ (m ≡ n)
    → read (write l n v).value m ≡ read l m
untouched l n m v a o = let w = was_put l n v a in rw w.is (others l n v w m o)

pub unchanged : (l : List ℕ) (n : ℕ) → 2 ≤ length l → 1 ≤ n → n ≤ 4 * length l → write l n (read l n).value ≡ done l
unfolding changed put
unchanged l n h one end =
    let b = get_or l ((n - 1) / 4) 0 in
    let r = reads l n h (λ z. omega arith) (pair_of b (n - 1)) (said (pair_of b (n - 1))) refl refl in
    let w = fits l n (said (pair_of b (n - 1))) h one end in
    rw (← r, w.is)
    (ap (λ (x : ℕ). done (set l ((n - 1) / 4) x))
    (ap (λ (q : ℕ). put b (n - 1) q) (says_said (pair_of b (n - 1)) (pair_small b (n - 1))) ∙ put_same b (n - 1))
    ∙ ap done (set-get_or l ((n - 1) / 4) 0))

pub is_written : (l : List ℕ) (n : ℕ) (v : Service) → 2 ≤ length l → 1 ≤ n → n ≤ 4 * length l → (write l n v).answer ≡ 0
is_written l n v h one end = rw (fits l n v h one end).is
