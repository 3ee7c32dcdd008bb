-- At most one entry answers a SELECT, and SELECT enters it.
use Rattle.std.specs.Prelude.{Some}
use Prim.Native.Nat.{ℕ, ◌/◌, ◌%◌, ◌<◌}
use mathlib.Core.Path.{◌≡◌, refl, sym, ap, ◌∙◌}
use mathlib.Core.List.{List}
use mathlib.Core.Bool.{Bool, true, false}
use native.Mathlib.Omega.{arith}
use lib.Dec.{eqb, ltb}
use borrow.Author.Tests.{eqb-true, eq-eqb, ltb-true, ltb-false}
use Rattle.card.specs.Layout.{index, directory, file, head}
use Rattle.card.specs.Shelf.{within, twin_files}
use Rattle.card.specs.Images.{SoundHead}
use Rattle.card.specs.Select.{leads, named, find_directory, find_file, select}
use Rattle.card.specs.Answers.{Reply}
use Rattle.card.specs.Demands.{Target, to_directory, to_file, Selects, OneAnswer, Entered, SelectEnters}
use Rattle.card.specs.declared.Entry.{Entry}
use Rattle.card.proofs.Tests.{both, joint, apart, Order, less, equal, more, order}
use Rattle.card.proofs.Images.{image}
use Rattle.card.proofs.Heads.{head_sound}
use Rattle.card.proofs.Fitting.{fitting}
use Rattle.card.proofs.Refusals.{choice}
use Rattle.card.proofs.Ranges.{find_holds, find_only}
use Rattle.card.proofs.Tree.{Leads, leads_name, start_odd, one_directory}

-- A file starts 2F, 6F or 4F.
within_even : (n m : ℕ) → m ≡ within n → m % 32 ≡ 15
unfolding within
within_even n m e = go (eqb n 0x3f) (eqb n 0x7f) e
  where
    go : (t u : Bool) → m ≡ elim t [ true ↦ 0x2f | false ↦ elim u [ true ↦ 0x6f | false ↦ 0x4f ] ] → m % 32 ≡ 15
    go true u e = omega arith
    go false true e = omega arith
    go false false e = omega arith

-- a file that an identifier selects has it; two that it selects from one directory are twins
named_name : (here id : ℕ) (e : Entry) → named here id e ≡ true → e.identifier ≡ id
unfolding named
named_name here id e t = eqb-true _ _ (both (eqb e.home here) (eqb e.identifier id) t).1

named_home : (here id : ℕ) (e : Entry) → named here id e ≡ true → e.home ≡ here
unfolding named
named_home here id e t = eqb-true _ _ (both (eqb e.home here) (eqb e.identifier id) t).0

named_twins : (here id : ℕ) (e e' : Entry) → named here id e ≡ true → named here id e' ≡ true → twin_files e e' ≡ true
unfolding twin_files
named_twins here id e e' p q =
    joint (eq-eqb _ _ (named_home here id e p ∙ sym (named_home here id e' q)))
    (eq-eqb _ _ (named_name here id e p ∙ sym (named_name here id e' q)))

module _ (h : List ℕ) (m : SoundHead h) (here id : ℕ) where
  one_file : (f f' : ℕ) → f < (index h).files → f' < (index h).files → named here id (file h f) ≡ true → named here id (file h f') ≡ true → f ≡ f'
  one_file f f' n n' p q = go (order f f')
    where
      go : Order f f' → f ≡ f'
      go (equal o) = o
      go (less o) = apart (named_twins here id _ _ p q) ((m.file f' n').alone f o)
      go (more o) = apart (named_twins here id _ _ q p) ((m.file f n).alone f' o)

  never_both : (d f : ℕ) → d < (index h).directories → f < (index h).files → Leads h here id d → named here id (file h f) ≡ true → ⊥
  never_both d f n k p q =
      start_odd h m.directory d n
      (ap (λ x. x / 256 % 32) (leads_name h here id d p ∙ sym (named_name here id (file h f) q))
      ∙ within_even ((directory h (file h f).home).identifier / 256) _ (m.file f k).starts)

  single : here < (index h).directories → (t t' : Target) → Selects h here id t → Selects h here id t' → t ≡ t'
  single n (to_directory d) (to_directory d') p q = ap to_directory (one_directory h m.directory here id d d' n p.0 q.0 p.1 q.1)
  single n (to_directory d) (to_file f) p q = absurd (never_both d f p.0 q.0 p.1 q.1)
  single n (to_file f) (to_directory d) p q = absurd (never_both d f q.0 p.0 q.1 p.1)
  single n (to_file f) (to_file f') p q = ap to_file (one_file f f' p.0 q.0 p.1 q.1)

  found-directory : here < (index h).directories → (d : ℕ) → Selects h here id (to_directory d) → find_directory h here id ≡ d
  unfolding find_directory
  found-directory n d p =
      find_only (index h).directories (λ c. leads here (directory h here).parent id c (directory h c)) d p.0 p.1
      (λ c j u. one_directory h m.directory here id c d n j p.0 u p.1)

  found-file : (f : ℕ) → Selects h here id (to_file f) → find_file h here id ≡ f
  unfolding find_file
  found-file f p = find_only (index h).files (λ g. named here id (file h g)) f p.0 p.1 (λ g j u. one_file g f j p.0 u p.1)

  -- what is found as a directory is selected
  found_leads : find_directory h here id < (index h).directories → Leads h here id (find_directory h here id)
  unfolding find_directory
  found_leads n = find_holds (index h).directories (λ c. leads here (directory h here).parent id c (directory h c)) n

pub one_answer : OneAnswer
one_answer l here id t t' i n p q = single (head l) (head_sound l (image l i)) here id n t t' p q

pub select_enters : SelectEnters
unfolding select
select_enters l s id t i g p = go t p
  where
    m : SoundHead (head l)
    m = head_sound l (image l i)

    n : s.directory < (index (head l)).directories
    n = (fitting (head l) s g).directory

    go : (t : Target) → Selects (head l) s.directory id t → Entered t (select (head l) s id).session
    go (to_directory d) q =
        let e = found-directory (head l) m s.directory id n d q in
        choice (λ (r : Reply). Entered (to_directory d) r.session) (ltb (find_directory (head l) s.directory id) (index (head l)).directories) _ _ (λ t. (e, refl))
        (λ t. let u = ltb-false (find_directory (head l) s.directory id) (index (head l)).directories t in let v = q.0 in absurd (omega (arith, u, v, e)))
    go (to_file f) q =
        let e = found-file (head l) m s.directory id f q in
        choice (λ (r : Reply). Entered (to_file f) r.session) (ltb (find_directory (head l) s.directory id) (index (head l)).directories) _ _
        (λ t.
        let u = ltb-true _ _ t in
        absurd (never_both (head l) m s.directory id _ f u q.0 (found_leads (head l) m s.directory id u) q.1))
        (λ t.
        choice (λ (r : Reply). Entered (to_file f) r.session) (ltb (find_file (head l) s.directory id) (index (head l)).files) _ _ (λ u. ap Some e)
        (λ u. let v = ltb-false (find_file (head l) s.directory id) (index (head l)).files u in let w = q.0 in absurd (omega (arith, v, w, e))))
