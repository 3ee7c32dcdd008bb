-- Two directories that keep their own rules are twins exactly if their keys are equal; so a directory keeps its rules if it keeps its
-- own and its key is not marked.
use Prim.Native.Nat.{ℕ, ◌+◌, ◌*◌, ◌/◌, ◌%◌, ◌<◌}
use mathlib.Core.Path.{◌≡◌, sym, ap, ◌∙◌}
use mathlib.Core.List.{List}
use mathlib.Core.Bool.{Bool, true, false, ◌&&◌, not, and-false}
use mathlib.Core.Logic.{◌⊎◌, inl, inr, ⊎_elim}
use native.Mathlib.Omega.{arith}
use borrow.Author.Tests.{eqb-true, eqb-false, eq-eqb, ne_eqb, ltb-true}
use lib.Dec.{eqb}
use lib.ListN.{set}
use Rattle.card.specs.Bytes.{none}
use Rattle.card.specs.Layout.{directory}
use Rattle.card.specs.Shelf.{all, below, twins, directory_rules}
use Rattle.card.specs.declared.Directory.{Directory}
use Rattle.card.proofs.Tests.{both, joint, one_of, where_true, where_false, decided, same_test, all_at}
use Rattle.shelf_check.specs.Marks.{marked, Adds}
use Rattle.shelf_check.specs.Apart.{own_directory, directory_key}
use Rattle.shelf_check.proofs.OneEntry.{key_master, key_other}
use Rattle.shelf_check.proofs.Keys.{Pass, taken_out, pass_more}

directory_split : (l : List ℕ) (d : ℕ) (e : Directory)
    → all (directory_rules l d e) ≡ (own_directory l d e && none d (λ c. twins (directory l c) e))
unfolding directory_rules own_directory
directory_split l d e = taken_out (directory_rules l d e) 6

below_one : (a x y : ℕ) → below a x ≡ true → below a y ≡ true → x ≡ y
unfolding below
below_one a x y p q = go (one_of _ _ p) (one_of _ _ q)
  where
    pair : (b c m n : ℕ) → (eqb b m && eqb c n) ≡ true → (b ≡ m) × (c ≡ n)
    pair b c m n t = let h = both (eqb b m) (eqb c n) t in (eqb-true b m h.0, eqb-true c n h.1)

    go : ((eqb a 0x3f && eqb x 0x7f) ≡ true) ⊎ ((eqb a 0x7f && eqb x 0x5f) ≡ true)
        → ((eqb a 0x3f && eqb y 0x7f) ≡ true) ⊎ ((eqb a 0x7f && eqb y 0x5f) ≡ true)
        → x ≡ y
    go (inl s) (inl t) = let h = pair a x 0x3f 0x7f s in let g = pair a y 0x3f 0x7f t in omega arith
    go (inl s) (inr t) = let h = pair a x 0x3f 0x7f s in let g = pair a y 0x7f 0x5f t in omega arith
    go (inr s) (inl t) = let h = pair a x 0x7f 0x5f s in let g = pair a y 0x3f 0x7f t in omega arith
    go (inr s) (inr t) = let h = pair a x 0x7f 0x5f s in let g = pair a y 0x7f 0x5f t in omega arith

-- nothing starts 3F below another
below_not : (a x : ℕ) → below a x ≡ true → x ≡ 0x3f → ⊥
unfolding below
below_not a x p e = go (one_of _ _ p)
  where
    go : ((eqb a 0x3f && eqb x 0x7f) ≡ true) ⊎ ((eqb a 0x7f && eqb x 0x5f) ≡ true) → ⊥
    go (inl s) = let h = eqb-true x 0x7f (both (eqb a 0x3f) (eqb x 0x7f) s).1 in omega arith
    go (inr s) = let h = eqb-true x 0x5f (both (eqb a 0x7f) (eqb x 0x5f) s).1 in omega arith

-- what a directory's own rules say of its key
record Rooted (l : List ℕ) (d : ℕ) (e : Directory) : Type 0 where
  pub master : d ≡ 0 → e.identifier ≡ 0x3f00
  pub parent : 0 < d → e.parent < d
  pub starts : 0 < d → below ((directory l e.parent).identifier / 256) (e.identifier / 256) ≡ true

rooted : (l : List ℕ) (d : ℕ) (e : Directory) → own_directory l d e ≡ true → Rooted l d e
unfolding own_directory directory_rules
rooted l d e h =
    let rule = all_at (set (directory_rules l d e) 6 true) h in
    record {
      master = λ z. eqb-true _ _ (where_true (eqb d 0) _ (rule 2) (eq-eqb _ _ z));
      parent = λ p. ltb-true _ _ (where_false (eqb d 0) _ (rule 4) (positive p));
      starts = λ p. where_false (eqb d 0) _ (rule 5) (positive p);
    }
  where
    positive : 0 < d → eqb d 0 ≡ false
    positive p = ne_eqb d 0 (λ z. omega arith)

-- a directory's rules, its own, and its key, by its number
abbrev pub directory_keeps : List ℕ → ℕ → Bool
directory_keeps l d = all (directory_rules l d (directory l d))

abbrev own_of : List ℕ → ℕ → Bool
own_of l d = own_directory l d (directory l d)

abbrev pub directory_keys : List ℕ → ℕ → ℕ
directory_keys l d = directory_key d (directory l d)

module _ (l : List ℕ) where
  module _ (k d : ℕ) (a b : Directory) (p : Rooted l k a) (q : Rooted l d b) (lt : k < d) (few : d < 32) where
    beside_master : k ≡ 0 → twins a b ≡ eqb (directory_key k a) (directory_key d b)
    unfolding twins
    beside_master z =
        let above : b.parent < d = q.parent (omega arith) in
        let far : a.identifier ≡ b.identifier → ⊥ =
        λ e. let m = p.master z in below_not _ _ (q.starts (omega arith)) (omega arith) in
        ap (λ t. eqb a.parent b.parent && t) (ne_eqb a.identifier b.identifier far)
        ∙ and-false (eqb a.parent b.parent)
        ∙ sym (ne_eqb (directory_key k a) (directory_key d b)
        (λ e. let x = key_master k a z in let y = key_other d b (λ o. omega arith) in omega arith))

    beside_other : (k ≡ 0 → ⊥) → twins a b ≡ eqb (directory_key k a) (directory_key d b)
    unfolding twins
    beside_other z = same_test _ _ to from
      where
        x : a.identifier % 256 + 256 * a.parent ≡ directory_key k a
        x = key_other k a z

        y : b.identifier % 256 + 256 * b.parent ≡ directory_key d b
        y = key_other d b (λ o. omega arith)

        to : (eqb a.parent b.parent && eqb a.identifier b.identifier) ≡ true → eqb (directory_key k a) (directory_key d b) ≡ true
        to t =
            let h = both (eqb a.parent b.parent) (eqb a.identifier b.identifier) t in
            let u : a.parent ≡ b.parent = eqb-true _ _ h.0 in
            let v : a.identifier ≡ b.identifier = eqb-true _ _ h.1 in
            let x' = x in
            let y' = y in
            eq-eqb (directory_key k a) (directory_key d b) (omega arith)

        from : eqb (directory_key k a) (directory_key d b) ≡ true → (eqb a.parent b.parent && eqb a.identifier b.identifier) ≡ true
        from t =
            let e : directory_key k a ≡ directory_key d b = eqb-true _ _ t in
            let x' = x in
            let y' = y in
            let m = p.parent (omega arith) in
            let n = q.parent (omega arith) in
            let u : a.parent ≡ b.parent = omega arith in
            let s = rw u at (p.starts (omega arith)) in
            let v : a.identifier / 256 ≡ b.identifier / 256 = below_one _ _ _ s (q.starts (omega arith)) in
            joint (eq-eqb a.parent b.parent u) (eq-eqb a.identifier b.identifier (omega arith))

    beside : twins a b ≡ eqb (directory_key k a) (directory_key d b)
    beside = ⊎_elim (λ t. beside_master (eqb-true _ _ t)) (λ t. beside_other (eqb-false _ _ t)) (decided (eqb k 0))

  directories_alike : (k d : ℕ) → k < d → d < 32 → own_of l k ≡ true → own_of l d ≡ true
      → twins (directory l k) (directory l d) ≡ eqb (directory_keys l k) (directory_keys l d)
  directories_alike k d lt few p q =
      beside k d (directory l k) (directory l d) (rooted l k _ p) (rooted l d _ q) lt few

  directory-key : (d : ℕ) (e : Directory) → d < 32 → own_directory l d e ≡ true → directory_key d e < 8192
  directory-key d e few h =
      ⊎_elim
      (λ t. let k = key_master d e (eqb-true _ _ t) in omega arith)
      (λ t.
      let n : d ≡ 0 → ⊥ = eqb-false _ _ t in
      let k = key_other d e n in
      let p = (rooted l d e h).parent (omega arith) in
      omega arith)
      (decided (eqb d 0))

  -- directory d, of entry e
  pub directory_pass : {m m' : List ℕ} {d : ℕ} {e : Directory} {s r t : Bool} {y : ℕ} → d < 32 → e ≡ directory l d → r ≡ own_directory l d e → y ≡ directory_key d e
      → Pass (directory_keeps l) (directory_keys l) d s m → t ≡ marked m (y % 8192) → Adds m (y % 8192) m'
      → Pass (directory_keeps l) (directory_keys l) (d + 1) (s && r && not t) m'
  directory_pass {d = d} few is own key =
      pass_more 32 (directory_keeps l) (own_of l) (λ k n. twins (directory l k) (directory l n)) (directory_keys l)
      (λ n. directory_split l n (directory l n)) directories_alike (λ n. directory-key n (directory l n)) few
      (own ∙ ap (λ x. own_directory l d x) is) (key ∙ ap (λ x. directory_key d x) is)
