-- An image in which a byte of the current file's entry is written, alone or after the file's bytes: by the code's places and by the
-- definition's.
use Prim.Native.Nat.{ℕ, ◌+◌, ◌≤◌, ◌<◌}
use mathlib.Core.Path.{◌≡◌, refl, sym, ap, ◌∙◌}
use mathlib.Core.List.{List}
use native.Mathlib.Omega.{arith}
use native.Mathlib.Nat.{add-sub_cancel_left}
use lib.ListN.{length, take, set}
use lib.Seq.{get_or-take, set-get_or}
use Rattle.card.specs.Bytes.{byte, splice}
use Rattle.card.specs.Layout.{index, file, file_at, start, head}
use Rattle.card.specs.Play.{opened, headed, filled}
use Rattle.card.specs.declared.Index.{Index}
use Rattle.card.specs.declared.Session.{Session}
use Rattle.card.proofs.Heads.{index_head}
use Rattle.card.proofs.Images.{image}
use Rattle.card.proofs.Places.{file_place, after_head, store_inside}
use Rattle.acts.proofs.Kept.{unfilled}
use Rattle.acts.proofs.Lent.{front_set, front_spliced, long_spliced}
use Rattle.acts_stand.specs.Here.{Spotted, Here, site}
use Rattle.acts_stand.specs.declared.Place.{Place}
use Rattle.acts_stand.specs.declared.Site.{Site}
use Rattle.acts_stand.proofs.Carried.{span}
use Rattle.acts_stand.proofs.Standing.{start_inside}

-- byte k of the entry, which stands in the head
module _ {l : List ℕ} {s : Session} {f : ℕ} {p : Site} (h : Spotted l s f p) (k : ℕ) (small : k < 14) where
  abbrev at : ℕ
  at = file_at (index l) f + k

  in_head : at < (index l).store
  in_head = let z = file_place l f h.among in omega arith

  at_is : p.at + k ≡ at
  unfolding site
  at_is = simp h.is

  -- written in a list that has the image's head
  in_front : (x : List ℕ) → take (index l).store x ≡ head l → (index l).store ≤ length x → (v : ℕ)
      → set x (p.at + k) v ≡ headed x (set (head l) (file_at (index (head l)) f + k) v)
  in_front x same long v =
      ap (λ (i : ℕ). set x i v) at_is
      ∙ sym (front_set x (index l).store at v in_head long)
      ∙ ap (λ (y : List ℕ). headed x (set y at v)) same
      ∙ ap (λ (i : Index). headed x (set (head l) (file_at i f + k) v)) (sym (index_head l))

  -- written in the image, and nothing else
  pub entered : (v : ℕ)
      → set l (p.at + k) v
      ≡ headed (filled l s.current (opened l s.current)) (set (head l) (file_at (index (head l)) f + k) v)
  unfolding head
  entered v =
      in_front l refl (store_inside l (image l h.ready.image)) v
      ∙ ap (λ (x : List ℕ). headed x (set (head l) (file_at (index (head l)) f + k) v)) (sym (unfilled l s.current))

module _ {l : List ℕ} {s : Session} {f : ℕ} {p : Place} (h : Here l s f p) where
  -- the image with other bytes in the file, by the definition and by the code
  abbrev spliced : List ℕ → List ℕ
  spliced b = splice l (start l f) (file l f).size b

  spliced_is : (b : List ℕ) → splice l p.start (span h) b ≡ spliced b
  spliced_is b = simp (h.starts, h.ends, add-sub_cancel_left)

  filled_is : (b : List ℕ) → spliced b ≡ filled l s.current b
  filled_is b = rw h.spotted.current

  started : start l f ≤ length l
  started = start_inside h.spotted.ready f h.spotted.current

  front : (b : List ℕ) → take (index l).store (spliced b) ≡ head l
  unfolding head
  front b = front_spliced l b (index l).store (start l f) (file l f).size (after_head l f) started

  -- byte k of the entry
  module _ (k : ℕ) (small : k < 14) where
    -- written after the file's bytes
    pub changed : (b : List ℕ) (v : ℕ)
        → set (splice l p.start (span h) b) (p.at + k) v
        ≡ headed (filled l s.current b) (set (head l) (file_at (index (head l)) f + k) v)
    changed b v =
        let long : (index l).store ≤ length (spliced b) =
        omega (arith, after_head l f, long_spliced l b (start l f) (file l f).size started) in
        ap (λ (x : List ℕ). set x (p.at + k) v) (spliced_is b)
        ∙ in_front h.spotted k small (spliced b) (front b) long v
        ∙ ap (λ (x : List ℕ). headed x (set (head l) (file_at (index (head l)) f + k) v)) (filled_is b)

    -- left as it was
    pub unchanged : (b : List ℕ)
        → splice l p.start (span h) b ≡ set (splice l p.start (span h) b) (p.at + k) (byte l (file_at (index l) f + k))
    unfolding head
    unchanged b =
        let n : ℕ = (index l).store in
        let i : ℕ = file_at (index l) f + k in
        let x : List ℕ = spliced b in
        let same : byte x i ≡ byte l i =
        sym (get_or-take n x i 0 (in_head h.spotted k small))
        ∙ ap (λ (y : List ℕ). byte y i) (front b)
        ∙ get_or-take n l i 0 (in_head h.spotted k small) in
        spliced_is b ∙ sym (set-get_or x i 0) ∙ ap (λ (v : ℕ). set x i v) same
        ∙ ap (λ (j : ℕ). set x j (byte l i)) (sym (at_is h.spotted k small))
        ∙ ap (λ (y : List ℕ). set y (p.at + k) (byte l i)) (sym (spliced_is b))
