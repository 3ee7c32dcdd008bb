-- Two files that keep their own rules are twins exactly if their keys are equal; so a file keeps its rules if it keeps its own and its
-- key is not marked.
use Prim.Native.Nat.{ℕ, ◌+◌, ◌/◌, ◌%◌, ◌<◌, ◌≤◌}
use mathlib.Core.Path.{◌≡◌, ap, ◌∙◌}
use mathlib.Core.List.{List}
use mathlib.Core.Bool.{Bool, true, ◌&&◌, not}
use native.Mathlib.Omega.{arith}
use borrow.Author.Tests.{eqb-true, eq-eqb, ltb-true}
use lib.Dec.{eqb}
use lib.ListN.{set}
use Rattle.card.specs.Bytes.{none}
use Rattle.card.specs.Layout.{index, directory, file}
use Rattle.card.specs.Shelf.{all, within, twin_files, file_rules}
use Rattle.card.specs.declared.Entry.{Entry}
use Rattle.card.proofs.Tests.{both, joint, same_test, all_at}
use Rattle.shelf_check.specs.Marks.{marked, Adds}
use Rattle.shelf_check.specs.Apart.{own_file, file_key}
use Rattle.shelf_check.proofs.Keys.{Pass, taken_out, pass_more}

file_split : (l : List ℕ) (f : ℕ) (e : Entry) → all (file_rules l f e) ≡ (own_file l e && none f (λ g. twin_files (file l g) e))
unfolding file_rules own_file
file_split l f e = taken_out (file_rules l f e) 4

-- what a file's own rules say of its key
record Housed (l : List ℕ) (e : Entry) : Type 0 where
  pub home : e.home < (index l).directories
  pub starts : e.identifier / 256 ≡ within ((directory l e.home).identifier / 256)

housed : (l : List ℕ) (e : Entry) → own_file l e ≡ true → Housed l e
unfolding own_file file_rules
housed l e h =
    let rule = all_at (set (file_rules l 0 e) 4 true) h in
    record { home = ltb-true _ _ (rule 0); starts = eqb-true _ _ (rule 3) }

-- a file's rules, its own, and its key, by its number
abbrev pub file_keeps : List ℕ → ℕ → Bool
file_keeps l f = all (file_rules l f (file l f))

abbrev own_of : List ℕ → ℕ → Bool
own_of l f = own_file l (file l f)

abbrev pub file_keys : List ℕ → ℕ → ℕ
file_keys l f = file_key (file l f)

module _ (l : List ℕ) (some : (index l).directories ≤ 32) where
  beside : (a b : Entry) → Housed l a → Housed l b → twin_files a b ≡ eqb (file_key a) (file_key b)
  unfolding twin_files file_key
  beside a b p q = same_test _ _ to from
    where
      to : (eqb a.home b.home && eqb a.identifier b.identifier) ≡ true → eqb (file_key a) (file_key b) ≡ true
      to t =
          let h = both (eqb a.home b.home) (eqb a.identifier b.identifier) t in
          let u : a.home ≡ b.home = eqb-true _ _ h.0 in
          let v : a.identifier ≡ b.identifier = eqb-true _ _ h.1 in
          eq-eqb (file_key a) (file_key b) (omega arith)

      from : eqb (file_key a) (file_key b) ≡ true → (eqb a.home b.home && eqb a.identifier b.identifier) ≡ true
      from t =
          let e : file_key a ≡ file_key b = eqb-true _ _ t in
          let m = p.home in
          let n = q.home in
          let u : a.home ≡ b.home = omega arith in
          let s = p.starts in
          let s' = q.starts in
          let w : within ((directory l a.home).identifier / 256) ≡ within ((directory l b.home).identifier / 256) =
          ap (λ x. within ((directory l x).identifier / 256)) u in
          joint (eq-eqb a.home b.home u) (eq-eqb a.identifier b.identifier (omega arith))

  files_alike : (k f : ℕ) → k < f → f < 65536 → own_of l k ≡ true → own_of l f ≡ true
      → twin_files (file l k) (file l f) ≡ eqb (file_keys l k) (file_keys l f)
  files_alike k f lt few p q = beside (file l k) (file l f) (housed l _ p) (housed l _ q)

  file-key : (e : Entry) → own_file l e ≡ true → file_key e < 8192
  unfolding file_key
  file-key e h = let p = (housed l e h).home in omega arith

  -- file f, of entry e
  pub file_pass : {m m' : List ℕ} {f : ℕ} {e : Entry} {s r t : Bool} {y : ℕ} → f < 65536 → e ≡ file l f → r ≡ own_file l e → y ≡ file_key e
      → Pass (file_keeps l) (file_keys l) f s m → t ≡ marked m (y % 8192) → Adds m (y % 8192) m'
      → Pass (file_keeps l) (file_keys l) (f + 1) (s && r && not t) m'
  file_pass few is own key =
      pass_more 65536 (file_keeps l) (own_of l) (λ k n. twin_files (file l k) (file l n)) (file_keys l)
      (λ n. file_split l n (file l n)) files_alike (λ n lt. file-key (file l n)) few
      (own ∙ ap (λ x. own_file l x) is) (key ∙ ap (λ x. file_key x) is)
