-- Laws of the sections of an image, over plain values.
use Prim.Native.Nat.{ℕ, ◌+◌, ◌*◌, ◌-◌, ◌<◌, ◌≤◌}
use mathlib.Core.Path.{◌≡◌, refl, sym, ap, ◌∙◌}
use mathlib.Core.List.{List}
use mathlib.Core.Logic.{◌⊎◌, inl, inr}
use mathlib.Core.Bool.{Bool, true, false, ◌&&◌, not, and-true, and-false, and_assoc}
use Rattle.std.specs.Prelude.{Option, Some, None}
use native.Mathlib.Numerals.{add-one}
use native.Mathlib.Omega.{arith}
use borrow.Author.Tests.{not-true, not-false, eqb-true, eq-eqb, lt-ltb, leb-true, le-leb, lt-leb}
use lib.ListN.{length}
use lib.Dec.{eqb, leb, ltb}
use Rattle.card.specs.Bytes.{word, every}
use Rattle.card.specs.Layout.{index, code, directory_entry, directory, file_entry, file, sizes}
use Rattle.card.specs.Shelf.{all, code_rules, codes_sound, directories_sound, files_sound, bytes_sound, is_image}
use Rattle.card.specs.declared.Index.{Index}
use Rattle.card.specs.declared.Code.{Code}
use Rattle.card.specs.declared.Directory.{Directory}
use Rattle.card.specs.declared.Entry.{Entry}
use Rattle.card.specs.Images.{Image}
use Rattle.card.proofs.Images.{image}
use Rattle.card.proofs.Places.{code_place, directory_place, file_place, sections_place, store_inside}
use Rattle.card.proofs.Tests.{both, joint, same_test, decided, apart}
use Rattle.shelf.proofs.Heading.{file_read as entry_read}
use Rattle.shelf.specs.Reads.{Indexed}
use Rattle.shelf_check.specs.Whole.{Whole}
use Rattle.shelf_check.specs.Tallies.{tally}
use Rattle.shelf_check.proofs.Directories.{directory_keeps}
use Rattle.shelf_check.proofs.Files.{file_keeps}

-- a negated test of a result, as a fact of what the result says
pub fails : {r t : Bool} → r ≡ t → not r ≡ true → t ≡ false
fails {r} e h = sym e ∙ not-true r h

pub sizes_none : (l : List ℕ) → 0 ≡ sizes l 0
unfolding sizes
sizes_none l = refl

pub sizes_more : (l : List ℕ) (f n s : ℕ) → n ≡ sizes l f → s ≡ (file l f).size → n + s ≡ sizes l (f + 1)
unfolding sizes
sizes_more l f n s h e = rw (add-one f, h, e)

-- two counts that are equal
same_count : (a b : ℕ) → eqb a b ≡ (leb b a && leb a b)
same_count a b = same_test _ _ to from
  where
    to : eqb a b ≡ true → (leb b a && leb a b) ≡ true
    to t = let e = eqb-true a b t in joint (le-leb b a (omega arith)) (le-leb a b (omega arith))

    from : (leb b a && leb a b) ≡ true → eqb a b ≡ true
    from t =
        let h = both (leb b a) (leb a b) t in
        let p = leb-true b a h.0 in
        let q = leb-true a b h.1 in
        eq-eqb a b (omega arith)

module _ (l : List ℕ) (n : ℕ) where
  pub tally_fails : every n (file_keeps l) ≡ false → None ≡ tally l n
  unfolding tally
  tally_fails h = simp (tally, h)

  pub tally_sum : (f sum : ℕ) → f ≤ n → n ≤ f → every n (file_keeps l) ≡ true → sum ≡ sizes l f → Some sum ≡ tally l n
  unfolding tally
  tally_sum f sum a b h e = let k : f ≡ n = omega arith in let x : sum ≡ sizes l n = rw (← k) e in simp (tally, h, x)

  unsound : (b : Bool) (s : ℕ) → ◌≡◌ {A = Option ℕ} None (elim b [ true ↦ Some s | false ↦ None ]) → b ≡ false
  unsound true s h = cc
  unsound false s h = refl

  sound : (b : Bool) (s x : ℕ) → ◌≡◌ {A = Option ℕ} (Some x) (elim b [ true ↦ Some s | false ↦ None ]) → (b ≡ true) × (x ≡ s)
  sound true s x h = (refl, cc)
  sound false s x h = cc

  pub tally_not : None ≡ tally l n → every n (file_keeps l) ≡ false
  unfolding tally
  tally_not = unsound (every n (file_keeps l)) (sizes l n)

  pub tally_is : (x : ℕ) → Some x ≡ tally l n → (every n (file_keeps l) ≡ true) × (x ≡ sizes l n)
  unfolding tally
  tally_is = sound (every n (file_keeps l)) (sizes l n)

-- The counts and the length are tested first: where they fail this is no image, and where they hold the sections are all there.
module _ (l : List ℕ) (i : Index) (n : Indexed l i) where
  is : i ≡ index l
  is = n.is

  abbrev tested : Bool
  tested = eqb i.codes 2 && ltb 0 i.directories && leb i.directories 32 && leb i.files 200 && leb i.store (length l)

  passes : Image l → tested ≡ true
  passes m =
      let k : i.codes ≡ 2 = rw is m.codes in
      let a : 0 < i.directories = rw is m.rooted in
      let b : i.directories ≤ 32 = rw is m.directories in
      let c : i.files ≤ 200 = rw is m.files in
      let d : i.store ≤ length l = rw is (store_inside l m) in
      joint (joint (joint (joint (eq-eqb _ _ k) (lt-ltb _ _ a)) (le-leb _ _ b)) (le-leb _ _ c)) (le-leb _ _ d)

  pub not_whole : tested ≡ false → false ≡ is_image l
  not_whole f = go (decided (is_image l))
    where
      go : (is_image l ≡ true) ⊎ (is_image l ≡ false) → false ≡ is_image l
      go (inl t) = apart (passes (image l t)) f
      go (inr e) = sym e

module _ (l : List ℕ) (i : Index) (w : Whole l i) where
  index_is : i ≡ index l
  index_is = w.indexed.is

  store_here : (index l).store ≤ length l
  store_here = rw (← index_is) w.all

  -- an entry that was read at its place, which lies inside
  pub directory_read : (d : ℕ) (e : Directory) → e ≡ directory_entry l (i.tree + 8 * d) → e ≡ directory l d
  unfolding directory
  directory_read d e h = h ∙ ap (λ (x : Index). directory_entry l (x.tree + 8 * d)) index_is

  pub file_read : (f : ℕ) (e : Entry) → e ≡ file_entry l (i.table + 14 * f) → e ≡ file l f
  file_read = entry_read l i index_is

  pub codes_inside : 42 ≤ length l
  codes_inside =
      let c : (index l).codes ≡ 2 = rw (← index_is) w.codes in
      let p = code_place l 1 (omega arith) in
      let q = sections_place l in
      let h = store_here in
      omega arith

  pub directory_inside : (d : ℕ) → d < i.directories → i.tree + 8 * d + 8 ≤ length l
  directory_inside =
      rw index_is
      (λ d lt. let p = directory_place l d lt in let q = sections_place l in let h = store_here in omega arith)

  pub file_inside : (f : ℕ) → f < i.files → i.table + 14 * f + 14 ≤ length l
  file_inside = rw index_is (λ f lt. let p = file_place l f lt in let h = store_here in omega arith)

  pub few : (index l).directories ≤ 32
  few = rw (← index_is) w.directories

  -- what is left of each section once its count and its length are tested
  sections_here : ((index l).tree - 2 ≤ length l) × (((index l).table - 2 ≤ length l) × ((index l).store - 2 ≤ length l))
  sections_here = let q = sections_place l in let h = store_here in (omega arith, (omega arith, omega arith))

  codes_counted : (eqb (index l).codes 2 ≡ true) × (leb ((index l).tree - 2) (length l) ≡ true)
  codes_counted =
      let k : (index l).codes ≡ 2 = rw (← index_is) w.codes in
      (eq-eqb _ _ k, le-leb _ _ sections_here.0)

  directories_counted : (ltb 0 (index l).directories ≡ true) × ((leb (index l).directories 32 ≡ true) × (leb ((index l).table - 2) (length l) ≡ true))
  directories_counted =
      let k : 0 < (index l).directories = rw (← index_is) w.some in
      (lt-ltb _ _ k, (le-leb _ _ few, le-leb _ _ sections_here.1.0))

  files_counted : (leb (index l).files 200 ≡ true) × (leb ((index l).store - 2) (length l) ≡ true)
  files_counted =
      let k : (index l).files ≤ 200 = rw (← index_is) w.files in
      (le-leb _ _ k, le-leb _ _ sections_here.1.1)

  codes_by : codes_sound l ≡ (all (code_rules 0 (code l 0)) && all (code_rules 1 (code l 1)))
  unfolding codes_sound every all
  codes_by = simp (codes_sound, all, and-true, and_assoc, codes_counted.0, codes_counted.1)

  -- the first code decides, or else the second
  pub codes_fail : (k : Code) (r : Bool) → k ≡ code l 0 → r ≡ all (code_rules 0 k) → not r ≡ true → false ≡ codes_sound l
  codes_fail k r c d h = rw (codes_by, ← c, ← d, not-true r h)

  pub codes_then : (k k' : Code) (r r' : Bool)
      → k ≡ code l 0
      → r ≡ all (code_rules 0 k)
      → not r ≡ false
      → k' ≡ code l 1
      → r' ≡ all (code_rules 1 k')
      → r' ≡ codes_sound l
  codes_then k k' r r' c d h c' d' = rw (codes_by, ← c, ← d, not-false r h, ← c') d'

  pub directories-sound : (r : Bool) → r ≡ every i.directories (directory_keeps l) → r ≡ directories_sound l
  unfolding directories_sound all
  directories-sound r e =
      simp (e, directories_sound, all, and-true, directories_counted.0, directories_counted.1.0, directories_counted.1.1, index_is)

  -- the last two sections: a file breaks a rule, or the bytes decide
  files_by : files_sound l ≡ every i.files (file_keeps l)
  unfolding files_sound all
  files_by = simp (files_sound, all, and-true, files_counted.0, files_counted.1, index_is)

  pub files_fail : every i.files (file_keeps l) ≡ false → false ≡ (files_sound l && bytes_sound l)
  files_fail h = sym (ap (λ t. t && bytes_sound l) (files_by ∙ h))

  pub files_then : (r : Bool) → every i.files (file_keeps l) ≡ true → r ≡ bytes_sound l → r ≡ (files_sound l && bytes_sound l)
  files_then r h e = e ∙ sym (ap (λ t. t && bytes_sound l) (files_by ∙ h))

  pub bytes-sound : (n x : ℕ)
      → n ≡ sizes l i.files
      → x ≡ word l (i.store - 2)
      → n ≤ 24576
      → (eqb x n && eqb (length l) (i.store + n)) ≡ bytes_sound l
  unfolding bytes_sound all
  bytes-sound n x e d few =
      simp (same_count (length l) (i.store + n), bytes_sound, all, and-true, ← index_is, ← e, d, le-leb _ _ few)

  pub bytes_unsound : (n : ℕ) → n ≡ sizes l i.files → 24576 < n → false ≡ bytes_sound l
  unfolding bytes_sound all
  bytes_unsound n e many = simp (bytes_sound, all, ← index_is, ← e, lt-leb _ _ many, and-false)

module _ (l : List ℕ) where
  pub no_codes : codes_sound l ≡ false → false ≡ is_image l
  unfolding is_image all
  no_codes a = simp (is_image, all, and-true, a)

  pub no_directories : codes_sound l ≡ true → directories_sound l ≡ false → false ≡ is_image l
  unfolding is_image all
  no_directories a b = simp (is_image, all, and-true, a, b)

  pub image_if : (r : Bool) → codes_sound l ≡ true → directories_sound l ≡ true → r ≡ (files_sound l && bytes_sound l) → r ≡ is_image l
  unfolding is_image all
  image_if r a b e = simp (is_image, all, and-true, a, b, e)
