-- A command on a code whose entry was lent as a part of the image: the part that came back is the head's part, put back.
use Prim.Native.Nat.{ℕ, ◌+◌, ◌-◌, ◌≤◌, ◌<◌}
use mathlib.Core.Path.{◌≡◌, sym, ap, subst, ◌∙◌}
use mathlib.Core.List.{List, ◌++◌, append_assoc}
use native.Mathlib.Omega.{arith}
use lib.ListN.{length, take, drop, take-append-drop, length-drop}
use lib.Seq.{length-take-le, take-append-le, drop-append-le}
use Rattle.card.specs.Answers as card
use Rattle.card.specs.Bytes.{part, splice}
use Rattle.card.specs.Images.{Image}
use Rattle.card.specs.Layout.{index, code_at, head}
use Rattle.card.specs.Play.{headed}
use Rattle.card.specs.declared.Session.{Session}
use Rattle.card.proofs.Images.{image}
use Rattle.card.proofs.Parts.{length_splice, length_part}
use Rattle.commands.specs.Gives as given
use Rattle.commands.specs.declared.answers.Reply.{Reply}
use Rattle.acts.specs.Leaves.{Codes}
use Rattle.acts.specs.Ready.{Ready}
use Rattle.acts.proofs.Kept.{unfilled}
use Rattle.card.proofs.Places.{store_inside}

-- a part of the first of two lists, and other bytes there, as a part of both
module _ (x y : List ℕ) (at k : ℕ) (fits : at + k ≤ length x) where
  after : drop at (x ++ y) ≡ drop at x ++ y
  after = drop-append-le at x y (omega arith)

  enough : k ≤ length (drop at x)
  enough = omega (arith, length-drop at x)

  part_of_both : part x at k ≡ part (x ++ y) at k
  part_of_both = sym (ap (take k) after ∙ take-append-le k (drop at x) y enough)

  splice_of_both : (new : List ℕ) → splice x at k new ++ y ≡ splice (x ++ y) at k new
  splice_of_both new =
      (simp append_assoc)
      ∙ sym
      (ap (λ (p : List ℕ). p ++ (new ++ drop k (drop at (x ++ y)))) (take-append-le at x y (omega arith))
      ∙ ap (λ (p : List ℕ). take at x ++ (new ++ p)) (ap (drop k) after ∙ drop-append-le k (drop at x) y enough))

-- the same of the first n elements of a list
module _ (l : List ℕ) (n at k : ℕ) (fits : at + k ≤ n) (inside : n ≤ length l) where
  whole : length (take n l) ≡ n
  whole = length-take-le n l inside

  front_part : part (take n l) at k ≡ part l at k
  front_part =
      part_of_both (take n l) (drop n l) at k (omega (arith, whole)) ∙ ap (λ (x : List ℕ). part x at k) (take-append-drop n l)

  front_splice : (new : List ℕ) → length new ≡ k → headed l (splice (take n l) at k new) ≡ splice l at k new
  front_splice new e =
      let m : length (splice (take n l) at k new) ≡ n = length_splice (take n l) at k new e (omega (arith, whole)) ∙ whole in
      ap (λ (j : ℕ). splice (take n l) at k new ++ drop j l) m
      ∙ splice_of_both (take n l) (drop n l) at k (omega (arith, whole)) new
      ∙ ap (λ (x : List ℕ). splice x at k new) (take-append-drop n l)

-- the codes' entries stand in the head
before : (l : List ℕ) → Image l → (c : ℕ) → c < 2 → code_at c + 20 ≤ (index l).store
unfolding index
before l m c h = omega (arith, m.codes)

-- both entries end inside the image
pub inside : {l : List ℕ} {s : Session} → Ready l s → 42 ≤ length l
inside {l} r = let m = image l r.image in omega (arith, before l m 1 (omega arith), store_inside l m)

module _ {l : List ℕ} {s : Session} (r : Ready l s) (c : ℕ) (h : c < 2) where
  -- any command: it saw the head's entry, and what it left there is in its place
  sees : part (head l) (code_at c) 20 ≡ part l (code_at c) 20
  unfolding head
  sees =
      let m = image l r.image in
      front_part l (index l).store (code_at c) 20 (before l m c h) (store_inside l m)

  leaves : (new : List ℕ) → length new ≡ 20 → splice l (code_at c) 20 new ≡ headed l (splice (head l) (code_at c) 20 new)
  unfolding head
  leaves new e =
      let m = image l r.image in
      sym (front_splice l (index l).store (code_at c) 20 (before l m c h) (store_inside l m) new e)

  by20 : (command : List ℕ → ℕ → card.Coded) (t : Reply) (new : List ℕ) → length new ≡ length (part l (code_at c) 20)
      → given.Codes (command (part l (code_at c) 20) c) t new
      → Codes command l s c t (splice l (code_at c) 20 new)
  by20 command t new k g room =
      let d : card.Coded = command (part (head l) (code_at c) 20) c in
      let g' : given.Codes d t new = subst (λ (e : List ℕ). given.Codes (command e c) t new) (sym sees) g in
      record {
        reply = g'.reply;
        image' =
            leaves new (k ∙ length_part l (code_at c) 20 (omega (arith, inside r)))
            ∙ ap (λ (e : List ℕ). headed l (splice (head l) (code_at c) 20 e)) g'.entry
            ∙ ap (λ (x : List ℕ). headed x (splice (head l) (code_at c) 20 d.entry)) (sym (unfilled l s.current));
        room = rw g'.silent;
      }

  -- the part goes from the entry's place to where it ends
  pub coded : (command : List ℕ → ℕ → card.Coded) (from to : ℕ) (t : Reply) (new : List ℕ) → (from ≡ code_at c) × (to ≡ code_at c + 20)
      → length new ≡ length (part l from (to - from))
      → given.Codes (command (part l from (to - from)) c) t new
      → Codes command l s c t (splice l from (to - from) new)
  coded command from to t new at =
      let e : to - from ≡ 20 = omega (arith, at.0, at.1) in
      rw (e, at.0) (by20 command t new)
