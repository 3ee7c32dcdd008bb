-- Laws of answers in the bytes lent for them.
use Prim.Native.Nat.{ℕ, ◌+◌, ◌-◌, ◌≤◌, ◌/◌, ◌%◌}
use mathlib.Core.Path.{◌≡◌, sym, ap, ◌∙◌}
use mathlib.Core.List.{List, [], ◌∷◌, ◌++◌, append_assoc}
use native.Mathlib.Nat.{add-sub_cancel_left}
use native.Mathlib.Omega.{arith}
use lib.ListN.{length, take, drop, set, length-append, length-drop}
use lib.Seq.{length-take-le, take-append_seam, drop-append_seam, drop-drop}
use Rattle.card.specs.Answers.{number, laid}
use Rattle.card.specs.Bytes.{part, splice}
use Rattle.card.specs.Play.{Outcome, play}
use Rattle.card.specs.declared.Session.{Session}
use Rattle.card.proofs.Parts.{length_part}
use Rattle.player.specs.Ends.{Ends}
use Rattle.player.specs.declared.Played.{Played}
use Rattle.player.proofs.Rooms.{behind}
use Rattle.player.proofs.Ways.{ends}
use Rattle.lists.specs.Answers.{answer, Told}

-- three bytes told before what was laid after them
headed : (h a b : ℕ) (new : List ℕ) (k : ℕ) (d was : List ℕ) → 3 + k ≡ length was → length new ≡ length (take k (drop 3 was))
    → new ≡ laid (take k (drop 3 was)) d
    → set (set (set (take 3 was ++ (new ++ drop k (drop 3 was))) 0 h) 1 a) 2 b ≡ laid was (h ∷ a ∷ b ∷ d)
headed h a b new k d [] e same f = absurd (omega arith)
headed h a b new k d (x ∷ []) e same f = absurd (omega arith)
headed h a b new k d (x ∷ y ∷ []) e same f = absurd (omega arith)
headed h a b new k d (x ∷ y ∷ z ∷ was) e same f = ap (λ (w : List ℕ). h ∷ a ∷ b ∷ w) (behind d was new k (omega arith) f same)

-- a command's answer in the 261 bytes lent for it: its response is laid after the first three, which are then told
module _ (was new : List ℕ) (long : length was ≡ 261) (same : length new ≡ length (take (length was - 3) (drop 3 was))) where
  abbrev room : List ℕ
  room = take (length was - 3) (drop 3 was)

  roomy : length room ≡ 258
  roomy = length-take-le (length was - 3) (drop 3 was) (omega (arith, length-drop 3 was)) ∙ ap (λ (n : ℕ). n - 3) long

  pub told : (l : List ℕ) (s : Session) (c : List ℕ) {p : Played} {image : List ℕ} (n : ℕ) → n ≡ number p.answer
      → Ends (play l s c (length room)) p image room new
      → Told (play l s c 258) p image was
      (set (set (set (take 3 was ++ (new ++ drop (length was - 3) (drop 3 was))) 0 n) 1 (p.count / 256)) 2 (p.count % 256))
  told l s c {p} n h e =
      let o = play l s c 258 in
      let f = ends (ap (λ (n : ℕ). play l s c n) roomy) e in
      record {
        count = f.count;
        session = f.session;
        image' = f.image';
        answer' =
            headed n (p.count / 256) (p.count % 256) new (length was - 3) o.response was (omega arith) same f.room
            ∙ simp (h, f.answer, f.count);
      }

-- the bytes lent for an answer are 261
pub lent : (is : List ℕ) (at : ℕ) → at + 261 ≤ length is → length (part is at (at + 261 - at)) ≡ 261
lent is at h = simp add-sub_cancel_left (length_part is at 261 h)

-- an answer is no longer than the bytes lent for it
pub short : {o : Outcome} {p : Played} {image was is : List ℕ} → Told o p image was is → length is ≡ length was → 3 + p.count ≤ length was
short {o} {was = was} t same =
    omega (arith, t.count, ap length (sym t.answer') ∙ same, length-append (answer o) (drop (length (answer o)) was))

-- bytes laid after others, in k bytes that were lent from the end of these on
pub joined : (was d e is new : List ℕ) (at k : ℕ) → is ≡ laid was d → at ≡ length d → at + k ≤ length is → new ≡ laid (part is at k) e
    → length new ≡ length (part is at k)
    → splice is at k new ≡ laid was (d ++ e)
joined was d e is new at k g q fits f same =
    let left : k ≤ length (drop at is) = omega (arith, length-drop at is) in
    ap (λ (y : List ℕ). take at is ++ y) (behind e (drop at is) new k left f same)
    ∙ ap (λ (y : List ℕ). take at y ++ laid (drop at y) e) g
    ∙ ap (λ (i : ℕ). take i (laid was d) ++ laid (drop i (laid was d)) e) q
    ∙ simp (take-append_seam, drop-append_seam, drop-drop, append_assoc, length-append)
