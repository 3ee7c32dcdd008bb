-- The writes that commands make in a head leave the sections, the entries and the rules.
use Prim.Native.Nat.{ℕ, ◌+◌, ◌-◌, ◌<◌, ◌≤◌}
use mathlib.Core.Path.{◌≡◌, refl, sym, ap, ◌∙◌, subst}
use mathlib.Core.List.{List}
use mathlib.Core.Logic.{◌⊎◌, inl, inr}
use native.Mathlib.Omega.{arith}
use lib.ListN.{length, set, length-set}
use lib.Seq.{get_or-set_same, get_or-set_other}
use Rattle.card.specs.Bytes.{byte, word, part, splice}
use Rattle.card.specs.Layout.{index, code_entry, code, code_at, file, file_at, status_at, top_at}
use Rattle.card.specs.Images.{SoundCode, SoundStatus, SoundTop, SoundHead}
use Rattle.card.specs.declared.Index.{Index}
use Rattle.card.specs.declared.Code.{Code}
use Rattle.card.specs.declared.Entry.{Entry}
use Rattle.card.proofs.Tests.{Order, less, equal, more, order}
use Rattle.card.proofs.Parts.{Agree, narrow, set_agree, length_splice, splice_in, splice_agree, part_at, length_part}
use Rattle.card.proofs.Entries.{word_by, code_entry_by, code_by, file_by, status_byte, top_byte}
use Rattle.card.proofs.Frames.{Placed, placed, Same, same_refl, same_codes, same_mark}

-- A head that has become another and is as sound as before.
pub record Kept (h h' : List ℕ) : Type 0 where
  pub same : Same h h'
  pub length : length h' ≡ length h
  pub total : word h ((index h).store - 2) ≡ word h' ((index h).store - 2)
  pub code : (c : ℕ) → c < 2 → SoundCode c (code h' c)
  pub status : (f : ℕ) → f < (index h).files → SoundStatus (file h' f).status
  pub top : (f : ℕ) → f < (index h).files → SoundTop (file h f) (file h' f).top

pub kept_refl : (h : List ℕ) → SoundHead h → Kept h h
kept_refl h m =
    record {
      same = same_refl h;
      length = refl;
      total = refl;
      code = m.code;
      status = λ f k. (m.file f k).status;
      top = λ f k. (m.file f k).top;
    }

-- One byte of a file's entry, its status or its top, becomes another.
module _ (h : List ℕ) (m : SoundHead h) (f k v : ℕ) (which : (k ≡ 9) ⊎ (k ≡ 12)) (here : f < (index h).files) where
  written : List ℕ
  written = set h (file_at (index h) f + k) v

  mark_same : Same h written
  unfolding written
  mark_same = same_mark h f k v which

  within_entry : k < 14
  within_entry = go which
    where
      go : (k ≡ 9) ⊎ (k ≡ 12) → k < 14
      go (inl w) = omega arith
      go (inr w) = omega arith

  others : (g : ℕ) → (g < f) ⊎ (f < g) → file h g ≡ file written g
  unfolding written
  others g o = let w = within_entry in file_by h written g mark_same.sections (set_agree h _ v _ _ (go o))
    where
      go : (g < f) ⊎ (f < g)
          → (file_at (index h) f + k < file_at (index h) g) ⊎ (file_at (index h) g + 14 ≤ file_at (index h) f + k)
      go (inl p) = inr (omega arith)
      go (inr p) = let w = within_entry in inl (omega arith)

  status-at : (file written f).status ≡ byte written (file_at (index h) f + 9)
  status-at = status_byte written f ∙ ap (λ (i : Index). byte written (file_at i f + 9)) (sym mark_same.sections)

  top-at : (file written f).top ≡ byte written (file_at (index h) f + 12)
  top-at = top_byte written f ∙ ap (λ (i : Index). byte written (file_at i f + 12)) (sym mark_same.sections)

  behind : Agree ((index h).store - 2) (index h).store h written
  unfolding written
  behind = let p = placed h in let w = within_entry in set_agree h _ v _ _ (inl (omega arith))

  before_codes : (c : ℕ) → c < 2 → code h c ≡ code written c
  unfolding written
  before_codes c n =
      let p = placed h in
      let q = m.codes in
      code_by {l = h} {l' = written} c (set_agree h _ v _ _ (inr (omega arith)))

  kept_mark : SoundStatus (file written f).status → SoundTop (file h f) (file written f).top → Kept h written
  unfolding written
  kept_mark s t =
      record {
        same = mark_same;
        length = length-set h _ v;
        total = let p = placed h in word_by _ (narrow behind (omega arith) (omega arith));
        code = λ c n. subst (λ (x : Code). SoundCode c x) (before_codes c n) (m.code c n);
        status = λ g n. status (order g f) n;
        top = λ g n. top (order g f) n;
      }
    where
      status : {g : ℕ} → Order g f → g < (index h).files → SoundStatus (file written g).status
      status {g} (less o) n = subst (λ (e : Entry). SoundStatus e.status) (others g (inl o)) (m.file g n).status
      status {g} (equal o) n = rw o s
      status {g} (more o) n = subst (λ (e : Entry). SoundStatus e.status) (others g (inr o)) (m.file g n).status

      top : {g : ℕ} → Order g f → g < (index h).files → SoundTop (file h g) (file written g).top
      top {g} (less o) n = subst (λ (e : Entry). SoundTop (file h g) e.top) (others g (inl o)) (m.file g n).top
      top {g} (equal o) n = rw o t
      top {g} (more o) n = subst (λ (e : Entry). SoundTop (file h g) e.top) (others g (inr o)) (m.file g n).top

module _ (h : List ℕ) (m : SoundHead h) (f v : ℕ) (here : f < (index h).files) where
  room : (k : ℕ) → k < 14 → file_at (index h) f + k < length h
  room k n = let p = placed h in let w = m.whole in omega arith

  pub kept_status : SoundStatus v → Kept h (set h (status_at (index h) f) v)
  unfolding written
  kept_status r =
      kept_mark h m f 9 v (inl refl) here
      (subst SoundStatus (sym (status-at h m f 9 v (inl refl) here ∙ get_or-set_same h (status_at (index h) f) v 0 (room 9 (omega arith)))) r)
      (subst (SoundTop (file h f))
      (top_byte h f
      ∙ sym (top-at h m f 9 v (inl refl) here ∙ get_or-set_other h (status_at (index h) f) (top_at (index h) f) v 0 (λ e. omega arith)))
      (m.file f here).top)

  pub kept_top : SoundTop (file h f) v → Kept h (set h (top_at (index h) f) v)
  unfolding written
  kept_top r =
      kept_mark h m f 12 v (inr refl) here
      (subst SoundStatus
      (status_byte h f
      ∙ sym (status-at h m f 12 v (inr refl) here ∙ get_or-set_other h (top_at (index h) f) (status_at (index h) f) v 0 (λ e. omega arith)))
      (m.file f here).status)
      (subst (SoundTop (file h f)) (sym (top-at h m f 12 v (inr refl) here ∙ get_or-set_same h (top_at (index h) f) v 0 (room 12 (omega arith)))) r)

-- A write within the entry of one code.
pub kept_code : (h h' : List ℕ) (m : SoundHead h) (c : ℕ) → c < 2
    → length h' ≡ length h
    → Agree 0 (code_at c) h h'
    → Agree (code_at c + 20) (index h).store h h'
    → SoundCode c (code h' c)
    → Kept h h'
kept_code h h' m c n len before after r =
    record {
      same = same;
      length = len;
      total = word_by _ (narrow after (omega (arith, two, p)) (omega (arith, p)));
      code = λ c' n'. go c' n' (order c' c);
      status = λ f k. subst (λ (e : Entry). SoundStatus e.status) (files f k) (m.file f k).status;
      top = λ f k. subst (λ (e : Entry). SoundTop (file h f) e.top) (files f k) (m.file f k).top;
    }
  where
    two : (index h).codes ≡ 2
    two = m.codes

    p : Placed (index h)
    p = placed h

    same : Same h h'
    same = same_codes h h' (narrow before (omega arith) (omega arith)) (narrow after (omega (arith, two)) (omega arith))

    files : (f : ℕ) → f < (index h).files → file h f ≡ file h' f
    files f k = file_by h h' f same.sections (narrow after (omega (arith, two, p)) (omega (arith, p)))

    go : (c' : ℕ) → c' < 2 → Order c' c → SoundCode c' (code h' c')
    go c' n' (less o) =
        subst (λ (x : Code). SoundCode c' x) (code_by {l = h} {l' = h'} c' (narrow before (omega arith) (omega arith))) (m.code c' n')
    go c' n' (equal o) = rw o r
    go c' n' (more o) =
        subst (λ (x : Code). SoundCode c' x) (code_by {l = h} {l' = h'} c' (narrow after (omega arith) (omega (arith, two, p)))) (m.code c' n')

-- The 20 bytes of a code's entry become others: with a sound head of the entry the whole stays sound.
pub record SoundEntry (c : ℕ) (e : List ℕ) : Type 0 where
  pub long : length e ≡ 20
  pub code : SoundCode c (code_entry e 0)

module _ (h : List ℕ) (m : SoundHead h) (c : ℕ) (n : c < 2) where
  entry_in : code_at c + 20 ≤ length h
  entry_in = let p = placed h in let w = m.whole in let two = m.codes in omega arith

  pub kept_entry : (e : List ℕ) → SoundEntry c e → Kept h (splice h (code_at c) 20 e)
  unfolding code
  kept_entry e r =
      kept_code h (splice h (code_at c) 20 e) m c n (length_splice h (code_at c) 20 e r.long entry_in)
      (splice_agree h (code_at c) 20 e r.long entry_in _ _ (inr (omega arith)))
      (splice_agree h (code_at c) 20 e r.long entry_in _ _ (inl (omega arith)))
      (subst (SoundCode c)
      (code_entry_by e (splice h (code_at c) 20 e) 0 (code_at c)
      (λ k l.
      let d : code_at c + k - code_at c ≡ 0 + k = omega arith in
      sym (splice_in h (code_at c) 20 e r.long entry_in (code_at c + k) (omega arith) (omega arith) ∙ ap (λ x. byte e x) d)))
      r.code)

  -- the entry as it stands
  pub entry_code : code_entry (part h (code_at c) 20) 0 ≡ code h c
  unfolding code
  entry_code = code_entry_by (part h (code_at c) 20) h 0 (code_at c) (λ k l. let d : 0 + k ≡ k = omega arith in ap (byte (part h (code_at c) 20)) d ∙ part_at h (code_at c) 20 k (omega arith))

  pub entry_sound : SoundEntry c (part h (code_at c) 20)
  entry_sound = record { long = length_part h (code_at c) 20 entry_in; code = rw entry_code (m.code c n) }
