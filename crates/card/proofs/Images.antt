-- From the test of an image to the facts and back, and which changes leave an image one.
use Prim.Native.Nat.{ℕ, ◌+◌, ◌-◌, ◌/◌, ◌%◌, ◌<◌, ◌≤◌}
use mathlib.Core.Path.{◌≡◌, refl, sym, ap, ◌∙◌, subst}
use mathlib.Core.List.{List, [], ◌∷◌}
use mathlib.Core.Bool.{Bool, true, false, ◌&&◌}
use native.Mathlib.Omega.{arith}
use lib.Dec.{eqb, leb, ltb}
use lib.ListN.{length}
use borrow.Author.Tests.{eqb-true, eqb-false, ltb-true, leb-true, eq-eqb, ne_eqb, lt-ltb, le-leb}
use Rattle.card.specs.Bytes.{word}
use Rattle.card.specs.Layout.{index, code, directory, file, transparent, cyclic, counter, records, sizes, start}
use Rattle.card.specs.Shelf.{all, code_rules, below, within, twins, directory_rules, twin_files, records_rule, top_rule, file_rules, codes_sound, directories_sound, files_sound, bytes_sound, is_image}
use Rattle.card.specs.Images.{SoundCode, SoundDirectory, Recorded, SoundStatus, SoundTop, SoundFile, Image}
use Rattle.card.specs.declared.Index.{Index}
use Rattle.card.specs.declared.Code.{Code}
use Rattle.card.specs.declared.Directory.{Directory}
use Rattle.card.specs.declared.Entry.{Entry}
use Rattle.card.proofs.Tests.{both, joint, where_true, where_false, if_true, if_false, all_at, every_at, to_every, none_at, to_none}
use Rattle.card.proofs.Entries.{marked}
use Rattle.card.proofs.Frames.{placed, Same, sizes_same, sizes_le}

-- Codes.
pub code_sound : (c : ℕ) (k : Code) → all (code_rules c k) ≡ true → SoundCode c k
unfolding code_rules
code_sound c k h =
    let rule = all_at (code_rules c k) h in
    record {
      flags = leb-true _ _ (rule 0);
      attempts = leb-true _ _ (rule 1);
      unblocks = leb-true _ _ (rule 2);
      spare = eqb-true _ _ (rule 3);
    }

pub code-rules : (c : ℕ) (k : Code) → SoundCode c k → all (code_rules c k) ≡ true
unfolding code_rules all
code-rules c k r =
    joint (le-leb _ _ r.flags) (joint (le-leb _ _ r.attempts) (joint (le-leb _ _ r.unblocks) (joint (eq-eqb _ _ r.spare) refl)))

-- Directories.
positive : (d : ℕ) → 0 < d → eqb d 0 ≡ false
positive d p = ne_eqb d 0 (λ z. omega arith)

pub directory_sound : (l : List ℕ) (d : ℕ) (e : Directory) → all (directory_rules l d e) ≡ true → SoundDirectory l d e
unfolding directory_rules
directory_sound l d e h =
    let rule = all_at (directory_rules l d e) h in
    record {
      characteristics = ltb-true _ _ (rule 0);
      spare = eqb-true _ _ (rule 1);
      master = λ z. eqb-true _ _ (where_true (eqb d 0) _ (rule 2) (eq-eqb _ _ z));
      root = λ z. eqb-true _ _ (where_true (eqb d 0) _ (rule 3) (eq-eqb _ _ z));
      parent = λ p. ltb-true _ _ (where_false (eqb d 0) _ (rule 4) (positive d p));
      starts = λ p. where_false (eqb d 0) _ (rule 5) (positive d p);
      alone = none_at d (λ c. twins (directory l c) e) (rule 6);
    }

pub directory-rules : (l : List ℕ) (d : ℕ) (e : Directory) → SoundDirectory l d e → all (directory_rules l d e) ≡ true
unfolding directory_rules all
directory-rules l d e r =
    joint (lt-ltb _ _ r.characteristics)
    (joint (eq-eqb _ _ r.spare)
    (joint (if_true (eqb d 0) _ (λ t. eq-eqb _ _ (r.master (eqb-true _ _ t))))
    (joint (if_true (eqb d 0) _ (λ t. eq-eqb _ _ (r.root (eqb-true _ _ t))))
    (joint (if_false (eqb d 0) _ (λ t. lt-ltb _ _ (r.parent (above t))))
    (joint (if_false (eqb d 0) _ (λ t. r.starts (above t)))
    (joint (to_none d (λ c. twins (directory l c) e) r.alone) refl))))))
  where
    above : eqb d 0 ≡ false → 0 < d
    above t = let n : d ≡ 0 → ⊥ = eqb-false _ _ t in omega arith

-- Files.
records_sound : (e : Entry) → records_rule e ≡ true → Recorded e
unfolding records_rule
records_sound e h =
    let rule = all_at _ h in
    record { width = ltb-true _ _ (rule 0); exact = eqb-true _ _ (rule 1); some = ltb-true _ _ (rule 2); few = ltb-true _ _ (rule 3) }

records-rule : (e : Entry) → Recorded e → records_rule e ≡ true
unfolding records_rule all
records-rule e r =
    joint (lt-ltb _ _ r.width) (joint (eq-eqb _ _ r.exact) (joint (lt-ltb _ _ r.some) (joint (lt-ltb _ _ r.few) refl)))

status_sound : (n : ℕ) → (leb (n % 4) 1 && ltb n 8) ≡ true → SoundStatus n
status_sound n h = let p = both (leb (n % 4) 1) (ltb n 8) h in record { marks = leb-true _ _ p.0; small = ltb-true _ _ p.1 }

top_sound : (e : Entry) → top_rule e ≡ true → SoundTop e e.top
unfolding top_rule
top_sound e h = record { round = λ t. ltb-true _ _ (simp (top_rule, t) at h); flat = λ t. eqb-true _ _ (simp (top_rule, t) at h) }

top-rule : (e : Entry) → SoundTop e e.top → top_rule e ≡ true
unfolding top_rule
top-rule e r = go (cyclic e) r.round r.flat
  where
    go : (t : Bool) → (t ≡ true → e.top < records e) → (t ≡ false → e.top ≡ 0)
        → elim t [ true ↦ ltb e.top (records e) | false ↦ eqb e.top 0 ] ≡ true
    go true p q = lt-ltb _ _ (p refl)
    go false p q = eq-eqb _ _ (q refl)

pub file_sound : (l : List ℕ) (f : ℕ) (e : Entry) → all (file_rules l f e) ≡ true → SoundFile l f e
unfolding file_rules
file_sound l f e h =
    let rule = all_at (file_rules l f e) h in
    record {
      home = ltb-true _ _ (rule 0);
      structure = rule 1;
      spare = eqb-true _ _ (rule 2);
      starts = eqb-true _ _ (rule 3);
      alone = none_at f (λ g. twin_files (file l g) e) (rule 4);
      plain = λ t. let r = all_at _ (where_true (transparent e) _ (rule 5) t) in (ltb-true _ _ (r 0), eqb-true _ _ (r 1));
      recorded = λ t. records_sound e (where_false (transparent e) _ (rule 6) t);
      counted =
          λ n.
          let r = all_at (counter e ∷ cyclic e ∷ eqb e.width 3 ∷ []) (where_false (eqb e.increase 0) _ (rule 7) (ne_eqb _ _ n)) in
          (r 0, r 1, eqb-true _ _ (r 2));
      status = status_sound e.status (rule 8);
      access = eqb-true _ _ (rule 9);
      top = top_sound e (rule 10);
    }

pub file-rules : (l : List ℕ) (f : ℕ) (e : Entry) → SoundFile l f e → all (file_rules l f e) ≡ true
unfolding file_rules all
file-rules l f e r =
    joint (lt-ltb _ _ r.home)
    (joint r.structure
    (joint (eq-eqb _ _ r.spare)
    (joint (eq-eqb _ _ r.starts)
    (joint (to_none f (λ g. twin_files (file l g) e) r.alone)
    (joint (if_true (transparent e) _ (λ t. joint (lt-ltb _ _ (r.plain t).0) (joint (eq-eqb _ _ (r.plain t).1) refl)))
    (joint (if_false (transparent e) _ (λ t. records-rule e (r.recorded t)))
    (joint (if_false (eqb e.increase 0) _ (λ t. counts (r.counted (eqb-false _ _ t))))
    (joint (joint (le-leb _ _ r.status.marks) (lt-ltb _ _ r.status.small))
    (joint (eq-eqb _ _ r.access)
    (joint (top-rule e r.top) refl))))))))))
  where
    counts : (counter e ≡ true) × (cyclic e ≡ true) × (e.width ≡ 3) → all (counter e ∷ cyclic e ∷ eqb e.width 3 ∷ []) ≡ true
    counts c = joint c.0 (joint c.1 (joint (eq-eqb _ _ c.2) refl))

-- a counter is cyclic and its records have three bytes
pub counter_sound : {l : List ℕ} {f : ℕ} {e : Entry} → SoundFile l f e → counter e ≡ true → (cyclic e ≡ true) × (e.width ≡ 3)
counter_sound {e = e} r t =
    let n : e.increase ≡ 0x40 = eqb-true _ _ t in
    let c = r.counted (λ z. omega arith) in
    (c.1, c.2)

-- Images.
pub image : (l : List ℕ) → is_image l ≡ true → Image l
unfolding is_image codes_sound directories_sound files_sound bytes_sound
image l h =
    let section = all_at (codes_sound l ∷ directories_sound l ∷ files_sound l ∷ bytes_sound l ∷ []) h in
    let codes = all_at _ (section 0) in
    let directories = all_at _ (section 1) in
    let files = all_at _ (section 2) in
    let bytes = all_at _ (section 3) in
    record {
      codes = eqb-true _ _ (codes 0);
      rooted = ltb-true _ _ (directories 0);
      directories = leb-true _ _ (directories 1);
      files = leb-true _ _ (files 0);
      total = eqb-true _ _ (bytes 0);
      bytes = leb-true _ _ (bytes 1);
      whole = (let p : length l ≤ (index l).store + sizes l (index l).files = leb-true _ _ (bytes 3) in let q : (index l).store + sizes l (index l).files ≤ length l = leb-true _ _ (bytes 2) in omega arith);
      code = λ c lt. code_sound _ _ (every_at 2 _ (codes 2) c lt);
      directory = λ d lt. directory_sound l _ _ (every_at _ _ (directories 3) d lt);
      file = λ f lt. file_sound l f _ (every_at _ _ (files 2) f lt);
    }

pub is-image : (l : List ℕ) → Image l → is_image l ≡ true
unfolding is_image codes_sound directories_sound files_sound bytes_sound all
is-image l m =
    let p = placed l in
    let w = m.whole in
    joint
    (joint (eq-eqb _ _ m.codes)
    (joint (le-leb ((index l).tree - 2) (length l) (omega arith))
    (joint (to_every 2 _ (λ c n. code-rules c _ (m.code c n))) refl)))
    (joint
    (joint (lt-ltb _ _ m.rooted)
    (joint (le-leb _ _ m.directories)
    (joint (le-leb ((index l).table - 2) (length l) (omega arith))
    (joint (to_every _ _ (λ d n. directory-rules l d _ (m.directory d n))) refl))))
    (joint
    (joint (le-leb _ _ m.files)
    (joint (le-leb ((index l).store - 2) (length l) (omega arith))
    (joint (to_every _ _ (λ f n. file-rules l f _ (m.file f n))) refl)))
    (joint
    (joint (eq-eqb _ _ m.total)
    (joint (le-leb _ _ m.bytes)
    (joint (le-leb ((index l).store + sizes l (index l).files) (length l) (omega arith))
    (joint (le-leb (length l) ((index l).store + sizes l (index l).files) (omega arith)) refl))))
    refl)))

-- file f's bytes lie inside the image
pub inside : (l : List ℕ) → Image l → (f : ℕ) → f < (index l).files → start l f + (file l f).size ≤ length l
unfolding start
inside l m f h = let w = m.whole in let z = sizes_le l f (index l).files h in omega arith

-- What is sound stays so in a list with the same entries, but for a file's status and top, which must be sound again.
module _ {l l' : List ℕ} (s : Same l l') where
  pub directory_stays : (d : ℕ) (e : Directory) → d < (index l).directories → SoundDirectory l d e → SoundDirectory l' d e
  directory_stays d e n r =
      record {
        characteristics = r.characteristics;
        spare = r.spare;
        master = r.master;
        root = r.root;
        parent = r.parent;
        starts =
            λ p.
            let q = r.parent p in
            subst (λ (x : Directory). below (x.identifier / 256) (e.identifier / 256) ≡ true) (s.directories e.parent (omega arith)) (r.starts p);
        alone = λ c k. subst (λ (x : Directory). twins x e ≡ false) (s.directories c (omega arith)) (r.alone c k);
      }

  pub file_stays : (f : ℕ) (e : Entry) (status top : ℕ) → f < (index l).files → SoundFile l f e → SoundStatus status → SoundTop e top
      → SoundFile l' f (marked e status top)
  unfolding twin_files
  file_stays f e status top n r p q =
      record {
        home = rw (← s.sections) r.home;
        structure = r.structure;
        spare = r.spare;
        starts =
            r.starts
            ∙ ap (λ (x : Directory). within (x.identifier / 256)) (s.directories e.home r.home);
        alone = λ g k. ap (λ (x : Entry). twin_files x e) (s.files g (omega arith)) ∙ r.alone g k;
        plain = r.plain;
        recorded = λ t. record { width = (r.recorded t).width; exact = (r.recorded t).exact; some = (r.recorded t).some; few = (r.recorded t).few };
        counted = r.counted;
        status = p;
        access = r.access;
        top = record { round = q.round; flat = q.flat };
      }

-- A list with the same entries, the same length and sound codes, status and top is again an image.
pub image_same : {l l' : List ℕ} → Image l → Same l l'
    → length l ≡ length l'
    → word l ((index l).store - 2) ≡ word l' ((index l).store - 2)
    → ((c : ℕ) → c < 2 → SoundCode c (code l' c))
    → ((f : ℕ) → f < (index l).files → SoundStatus (file l' f).status)
    → ((f : ℕ) → f < (index l).files → SoundTop (file l f) (file l' f).top)
    → Image l'
image_same {l} {l'} m s n w c t u =
    let ix = s.sections in
    let z = sizes_same s (index l).files (omega arith) ∙ ap (λ (x : Index). sizes l' x.files) ix in
    record {
      codes = rw (← ix) m.codes;
      rooted = rw (← ix) m.rooted;
      directories = rw (← ix) m.directories;
      files = rw (← ix) m.files;
      total = ap (λ (x : Index). word l' (x.store - 2)) (sym ix) ∙ sym w ∙ m.total ∙ z;
      bytes = rw (← z) m.bytes;
      whole = sym n ∙ m.whole ∙ (λ i. (ix i).store + z i);
      code = c;
      directory = rw (← ix) (λ d h. go d h);
      file = rw (← ix) (λ f h. go' f h);
    }
  where
    go : (d : ℕ) → d < (index l).directories → SoundDirectory l' d (directory l' d)
    go d h = subst (λ (e : Directory). SoundDirectory l' d e) (s.directories d h) (directory_stays s d (directory l d) h (m.directory d h))

    go' : (f : ℕ) → f < (index l).files → SoundFile l' f (file l' f)
    go' f h =
        subst (λ (e : Entry). SoundFile l' f e) (sym (s.files f h))
        (file_stays s f (file l f) (file l' f).status (file l' f).top h (m.file f h) (t f h) (u f h))
