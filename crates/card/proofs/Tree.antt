-- Directories: their three levels, and that no two that SELECT reaches share an identifier.
use Prim.Native.Nat.{ℕ, ◌/◌, ◌%◌, ◌<◌}
use mathlib.Core.Path.{◌≡◌, refl, sym, ap, ◌∙◌}
use mathlib.Core.List.{List}
use mathlib.Core.Bool.{Bool, true, ◌&&◌, ◌||◌}
use mathlib.Core.Logic.{◌⊎◌, inl, inr}
use native.Mathlib.Omega.{arith}
use lib.Dec.{eqb}
use borrow.Author.Tests.{eqb-true, eq-eqb}
use Rattle.card.specs.Layout.{index, directory}
use Rattle.card.specs.Shelf.{below, twins}
use Rattle.card.specs.Images.{SoundDirectory}
use Rattle.card.specs.Select.{reached, leads}
use Rattle.card.specs.declared.Directory.{Directory}
use Rattle.card.proofs.Tests.{both, joint, one_of, apart, Order, less, equal, more, order}

-- Below 3F stands 7F, below 7F stands 5F, and below all else nothing.
data Below (n m : ℕ) : Type 0 where
  under3f : n ≡ 0x3f → m ≡ 0x7f → Below n m
  under7f : n ≡ 0x7f → m ≡ 0x5f → Below n m

below_cases : (n m : ℕ) → below n m ≡ true → Below n m
unfolding below
below_cases n m e = go (one_of (eqb n 0x3f && eqb m 0x7f) (eqb n 0x7f && eqb m 0x5f) e)
  where
    go : ((eqb n 0x3f && eqb m 0x7f) ≡ true) ⊎ ((eqb n 0x7f && eqb m 0x5f) ≡ true) → Below n m
    go (inl p) = let q = both (eqb n 0x3f) (eqb m 0x7f) p in under3f (eqb-true _ _ q.0) (eqb-true _ _ q.1)
    go (inr p) = let q = both (eqb n 0x7f) (eqb m 0x5f) p in under7f (eqb-true _ _ q.0) (eqb-true _ _ q.1)

-- how SELECT reaches a directory
data Way (h : List ℕ) (here d : ℕ) : Type 0 where
  root : d ≡ 0 → Way h here d
  self : d ≡ here → Way h here d
  up : d ≡ (directory h here).parent → Way h here d
  child : (directory h d).parent ≡ here → Way h here d
  sibling : (directory h d).parent ≡ (directory h here).parent → Way h here d

way : (h : List ℕ) (here d : ℕ) → reached here (directory h here).parent d (directory h d) ≡ true → Way h here d
way h here d e = go₁ (one_of (a || b || c || f) g e)
  where
    a : Bool
    a = eqb d 0

    b : Bool
    b = eqb d here

    c : Bool
    c = eqb d (directory h here).parent

    f : Bool
    f = eqb (directory h d).parent here

    g : Bool
    g = eqb (directory h d).parent (directory h here).parent

    go₄ : (a ≡ true) ⊎ (b ≡ true) → Way h here d
    go₄ (inl p) = root (eqb-true _ _ p)
    go₄ (inr p) = self (eqb-true _ _ p)

    go₃ : ((a || b) ≡ true) ⊎ (c ≡ true) → Way h here d
    go₃ (inl p) = go₄ (one_of a b p)
    go₃ (inr p) = up (eqb-true _ _ p)

    go₂ : ((a || b || c) ≡ true) ⊎ (f ≡ true) → Way h here d
    go₂ (inl p) = go₃ (one_of (a || b) c p)
    go₂ (inr p) = child (eqb-true _ _ p)

    go₁ : ((a || b || c || f) ≡ true) ⊎ (g ≡ true) → Way h here d
    go₁ (inl p) = go₂ (one_of (a || b || c) f p)
    go₁ (inr p) = sibling (eqb-true _ _ p)

are_twins : (e e' : Directory) → e.parent ≡ e'.parent → e.identifier ≡ e'.identifier → twins e e' ≡ true
unfolding twins
are_twins e e' p q = joint (eq-eqb _ _ p) (eq-eqb _ _ q)

-- an identifier selects directory d from `here`
abbrev pub Leads : List ℕ → ℕ → ℕ → ℕ → Type 0
Leads h here id d = leads here (directory h here).parent id d (directory h d) ≡ true

pub leads_name : (h : List ℕ) (here id d : ℕ) → Leads h here id d → (directory h d).identifier ≡ id
unfolding leads
leads_name h here id d t = eqb-true _ _ (both (reached here (directory h here).parent d (directory h d)) _ t).1

-- the first byte of a directory's identifier
abbrev pub starting : List ℕ → ℕ → ℕ
starting h d = (directory h d).identifier / 256

module _ (h : List ℕ) (rules : (d : ℕ) → d < (index h).directories → SoundDirectory h d (directory h d)) where
  -- two entries of one parent never share an identifier
  unique : (d d' : ℕ) → d < (index h).directories → d' < (index h).directories
      → (directory h d).parent ≡ (directory h d').parent
      → (directory h d).identifier ≡ (directory h d').identifier
      → d ≡ d'
  unique d d' n n' p q = go (order d d')
    where
      go : Order d d' → d ≡ d'
      go (equal o) = o
      go (less o) = apart (are_twins _ _ p q) ((rules d' n').alone d o)
      go (more o) = apart (are_twins _ _ (sym p) (sym q)) ((rules d n).alone d' o)

  start_zero : 0 < (index h).directories → starting h 0 ≡ 0x3f
  start_zero n = ap (λ k. k / 256) ((rules 0 n).master refl)

  -- a directory starts 3F, 7F or 5F, and so never with a byte that ends in F after an even half
  pub start_odd : (d : ℕ) → d < (index h).directories → starting h d % 32 ≡ 15 → ⊥
  start_odd d n = go (order 0 d)
    where
      pick : Below (starting h (directory h d).parent) (starting h d) → starting h d % 32 ≡ 15 → ⊥
      pick (under3f p q) e = omega arith
      pick (under7f p q) e = omega arith

      go : Order 0 d → starting h d % 32 ≡ 15 → ⊥
      go (equal o) e = let q = start_zero (omega arith) in let z = ap (starting h) o in omega arith
      go (more o) e = omega arith
      go (less o) e = pick (below_cases _ _ ((rules d n).starts o)) e

  -- the three kinds of directories
  data Kind (d : ℕ) : Type 0 where
    master : d ≡ 0 → starting h d ≡ 0x3f → (directory h d).parent ≡ 0 → Kind d
    first : (directory h d).parent ≡ 0 → starting h d ≡ 0x7f → Kind d
    second : starting h (directory h d).parent ≡ 0x7f → starting h d ≡ 0x5f → Kind d

  kind : (d : ℕ) → d < (index h).directories → Kind d
  kind d n = go (order 0 d)
    where
      b : SoundDirectory h d (directory h d)
      b = rules d n

      -- what starts 3F is the master file
      at_top : (p : ℕ) → p < (index h).directories → starting h p ≡ 0x3f → Order 0 p → p ≡ 0
      at_top p k e (equal o) = sym o
      at_top p k e (more o) = absurd (omega arith)
      at_top p k e (less o) = pick (below_cases _ (starting h p) ((rules p k).starts o))
        where
          pick : Below (starting h (directory h p).parent) (starting h p) → p ≡ 0
          pick (under3f u v) = absurd (omega arith)
          pick (under7f u v) = absurd (omega arith)

      go : Order 0 d → Kind d
      go (equal o) = master (sym o) (ap (λ k. k / 256) (b.master (sym o))) (b.root (sym o))
      go (more o) = absurd (omega arith)
      go (less o) = pick (below_cases _ _ (b.starts o))
        where
          pick : Below (starting h (directory h d).parent) (starting h d) → Kind d
          pick (under3f p q) =
              let k = b.parent o in
              first (at_top (directory h d).parent (omega arith) p (order 0 (directory h d).parent)) q
          pick (under7f p q) = second p q

  -- a directory of the third level that is reached stands below the parent, or below the current directory
  lead : (here d : ℕ) → here < (index h).directories → starting h (directory h d).parent ≡ 0x7f → starting h d ≡ 0x5f → Way h here d
      → (((directory h d).parent ≡ (directory h here).parent) × (starting h here ≡ 0x5f))
      ⊎ (((directory h d).parent ≡ here) × (starting h here ≡ 0x7f))
  lead here d n a b w = go w (kind here n)
    where
      zeroth : starting h 0 ≡ 0x3f
      zeroth = start_zero (omega arith)

      go : Way h here d → Kind here
          → (((directory h d).parent ≡ (directory h here).parent) × (starting h here ≡ 0x5f))
          ⊎ (((directory h d).parent ≡ here) × (starting h here ≡ 0x7f))
      go (root p) k = let e = ap (starting h) p in absurd (omega (arith, zeroth))
      go (self p) k = inl (ap (λ x. (directory h x).parent) p, sym (ap (starting h) p) ∙ b)
      go (up p) (master z y x) = let e = ap (starting h) (p ∙ x) in absurd (omega (arith, zeroth))
      go (up p) (first y x) = let e = ap (starting h) (p ∙ y) in absurd (omega (arith, zeroth))
      go (up p) (second y x) = let e = ap (starting h) p in absurd (omega arith)
      go (child p) k = inr (p, sym (ap (starting h) p) ∙ a)
      go (sibling p) (master z y x) = let e = ap (starting h) (p ∙ x) in absurd (omega (arith, zeroth))
      go (sibling p) (first y x) = let e = ap (starting h) (p ∙ y) in absurd (omega (arith, zeroth))
      go (sibling p) (second y x) = inl (p, x)

  pub one_directory : (here id d d' : ℕ) → here < (index h).directories → d < (index h).directories → d' < (index h).directories
      → Leads h here id d
      → Leads h here id d'
      → d ≡ d'
  unfolding leads
  one_directory here id d d' n m m' r r' = go (kind d m) (kind d' m')
    where
      way_to : (c : ℕ) → Leads h here id c → Way h here c
      way_to c t = way h here c (both (reached here (directory h here).parent c (directory h c)) _ t).0

      e : (directory h d).identifier ≡ (directory h d').identifier
      e = leads_name h here id d r ∙ sym (leads_name h here id d' r')

      q : starting h d ≡ starting h d'
      q = ap (λ k. k / 256) e

      joined : (((directory h d).parent ≡ (directory h here).parent) × (starting h here ≡ 0x5f))
          ⊎ (((directory h d).parent ≡ here) × (starting h here ≡ 0x7f))
          → (((directory h d').parent ≡ (directory h here).parent) × (starting h here ≡ 0x5f))
          ⊎ (((directory h d').parent ≡ here) × (starting h here ≡ 0x7f))
          → (directory h d).parent ≡ (directory h d').parent
      joined (inl u) (inl v) = u.0 ∙ sym v.0
      joined (inl u) (inr v) = absurd (omega arith)
      joined (inr u) (inl v) = absurd (omega arith)
      joined (inr u) (inr v) = u.0 ∙ sym v.0

      go : Kind d → Kind d' → d ≡ d'
      go (master z y x) (master z' y' x') = z ∙ sym z'
      go (master z y x) (first y' x') = absurd (omega (arith, q))
      go (master z y x) (second y' x') = absurd (omega (arith, q))
      go (first y x) (master z' y' x') = absurd (omega (arith, q))
      go (first y x) (first y' x') = unique d d' m m' (y ∙ sym y') e
      go (first y x) (second y' x') = absurd (omega (arith, q))
      go (second y x) (master z' y' x') = absurd (omega (arith, q))
      go (second y x) (first y' x') = absurd (omega (arith, q))
      go (second y x) (second y' x') =
          unique d d' m m' (joined (lead here d n y x (way_to d r)) (lead here d' n y' x' (way_to d' r'))) e
