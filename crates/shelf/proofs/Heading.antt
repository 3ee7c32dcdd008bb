-- An image's index and its head: what `Indexed` and `Head` ask follows from what `is_image` says.
use Prim.Native.Nat.{ℕ, ◌+◌, ◌*◌, ◌<◌, ◌≤◌}
use mathlib.Core.Path.{◌≡◌, refl, sym, ap, ◌∙◌}
use mathlib.Core.List.{List}
use mathlib.Core.Bool.{true}
use native.Mathlib.Omega.{arith}
use lib.ListN.{length, take}
use lib.Seq.{length-take-le}
use Rattle.card.specs.Bytes.{word}
use Rattle.card.specs.Images.{Image}
use Rattle.card.specs.Layout.{index, index_with, file_entry, file, head}
use Rattle.card.specs.Shelf.{is_image}
use Rattle.card.specs.declared.Entry.{Entry}
use Rattle.card.specs.declared.Index.{Index}
use Rattle.card.proofs.Frames.{placed}
use Rattle.card.proofs.Heads.{index_head, head_sound}
use Rattle.card.proofs.Images.{image}
use Rattle.card.proofs.Places.{directory_place, store_inside}
use Rattle.shelf.specs.Reads.{Indexed, Head}

module _ (l : List ℕ) (s : Image l) where
  bounded : ((index l).tree < 3000000) × (((index l).table < 3000000) × (((index l).store < 3000000) × ((4 ≤ (index l).tree) × ((6 ≤ (index l).table) × (8 ≤ (index l).store)))))
  unfolding index
  bounded =
      (omega (arith, s.codes), (omega (arith, s.codes, s.directories), (omega (arith, s.codes, s.directories, s.files), (omega arith, (omega arith, omega arith)))))

  -- the index, as that of any list that has the same
  indexed : (h : List ℕ) → index l ≡ index h → Indexed h (index l)
  indexed h is =
      record {
        is = is;
        tree = bounded.0;
        table = bounded.1.0;
        store = bounded.1.1.0;
        rooted = bounded.1.1.1.0;
        tabled = bounded.1.1.1.1.0;
        counted = bounded.1.1.1.1.1;
        codes = omega (arith, s.codes);
        directories = omega (arith, s.directories);
        files = omega (arith, s.files);
      }

  entries : (index l).table + 14 * (index l).files ≤ length (head l)
  unfolding head
  entries =
      let p = placed l in
      let n = s.whole in
      rw (length-take-le (index l).store l (omega arith)) (omega arith)

  heads : Head (head l) (index l)
  heads =
      record {
        indexed = indexed (head l) (sym (index_head l));
        directories = s.directories;
        files = s.files;
        sound = head_sound l s;
        whole = entries;
      }

-- The counts of an image stand after its two codes and after its directories.
module _ (l : List ℕ) (sound : is_image l ≡ true) where
  two_codes : index l ≡ index_with 2 (word l 42) (word l (44 + 8 * word l 42))
  unfolding index
  two_codes = let c : word l 0 ≡ 2 = (image l sound).codes in simp c

  pub counts_inside : (d : ℕ) → d ≡ word l 42 → 46 + 8 * d ≤ length l
  counts_inside d e =
      let n : (index l).store ≤ length l = store_inside l (image l sound) in
      omega (arith, ap (λ (i : Index). i.store) two_codes)

  pub image_indexed : (d f : ℕ) → d ≡ word l 42 → f ≡ word l (44 + 8 * d) → Indexed l (index_with 2 d f)
  image_indexed d f p q = rw (q, p, ← two_codes) (indexed l (image l sound) l refl)

module _ (l : List ℕ) (i : Index) (is : i ≡ index l) (sound : is_image l ≡ true) where
  pub head_of : Head (take i.store l) i
  unfolding head
  head_of = rw is (heads l (image l sound))

  inside : i.store ≤ length l
  inside = rw is (omega (arith, (image l sound).whole))

  pub head_length : i.store ≡ length (take i.store l)
  head_length = sym (length-take-le i.store l inside)

-- a file's entry that was read where the index says
pub file_read : (l : List ℕ) (i : Index) → i ≡ index l → (f : ℕ) (e : Entry) → e ≡ file_entry l (i.table + 14 * f) → e ≡ file l f
unfolding file
file_read l i is f e h = h ∙ ap (λ (x : Index). file_entry l (x.table + 14 * f)) is

-- a directory's entry lies inside the head
pub directory_inside : (h : List ℕ) (i : Index) → Head h i → (d : ℕ) → d < i.directories → i.tree + 8 * d + 8 ≤ length h
directory_inside h i k d lt =
    let at : i.tree + 8 * d + 8 + 2 ≤ i.table = rw k.indexed.is (directory_place h d (rw (← k.indexed.is) lt)) in
    let w = k.whole in
    omega arith
