-- One command more: what is known after a turn of the loop in `run`.
use Prim.Native.Nat.{ℕ, ◌+◌, ◌<◌, ◌≤◌}
use mathlib.Core.Path.{◌≡◌, sym, ap, ◌∙◌}
use mathlib.Core.List.{List, [], ◌∷◌, ◌++◌}
use mathlib.Core.Bool.{Bool, true, false}
use native.Mathlib.Nat.{add_assoc}
use native.Mathlib.Numerals.{add-one}
use native.Mathlib.Omega.{arith}
use lib.ListN.{length, drop, length-append}
use lib.Seq.{drop-drop}
use borrow.Rule.Slice.PartMut.{same_len_mid}
use Rattle.acts.specs.Ready.{Ready}
use Rattle.card.specs.Answers.{laid}
use Rattle.card.specs.Bytes.{word, part, splice}
use Rattle.card.specs.Play.{Outcome, play}
use Rattle.card.specs.declared.Session.{Session}
use Rattle.card.proofs.Parts.{length_part}
use Rattle.player.specs.declared.Played.{Played}
use Rattle.shelf.proofs.Loops.{search_more}
use Rattle.lists.specs.Answers.{answer, answers, last_image, last_session, Told}
use Rattle.lists.specs.Commands.{rest}
use Rattle.lists.specs.Runs.{outcomes, stops, After}
use Rattle.lists.specs.declared.Ran.{Ran}
use Rattle.lists.proofs.Laying.{short, joined}
use Rattle.lists.proofs.Outcomes.{outcomes_more, answers_more, last_more}
use Rattle.lists.proofs.Places.{word_drop, rest_more}
use Rattle.lists.proofs.Sofar.{Sofar}

-- the next command, whose count stands at this place
module _ (c : List ℕ) (at k w : ℕ) (here : drop at c ≡ rest k c) (e : w ≡ word c at) where
  command : part (rest k c) 2 (word (rest k c) 0) ≡ part c (at + 2) w
  command = simp (← here, word_drop, ← e, drop-drop)

  pub further : drop (at + 2 + w) c ≡ rest (k + 1) c
  further =
      sym (ap (λ (n : ℕ). rest n c) (add-one k) ∙ rest_more k c ∙ simp (← here, word_drop, ← e, drop-drop, add_assoc))

  pub outcome : (l : List ℕ) (s : Session) {image : List ℕ} {t : Session} → image ≡ last_image l (outcomes l s c k)
      → t ≡ last_session s (outcomes l s c k)
      → outcomes l s c (k + 1) ≡ outcomes l s c k ++ (play image t (part c (at + 2) w) 258 ∷ [])
  outcome l s g h = ap (λ (n : ℕ). outcomes l s c n) (add-one k) ∙ outcomes_more l s c k ∙ simp (← g, ← h, command)

-- a turn that goes on; in the code's terms the command has v bytes, and its answer has m
module _ {l : List ℕ} {s : Session} {c : List ℕ} {n : ℕ} {was : List ℕ} {known : Bool} {image is : List ℕ} {r : Ran} {at : ℕ}
    (f : Sofar l s c n was known image is r at) (w : ℕ) {v m : ℕ} {p : Played} {image' new : List ℕ} (e : w ≡ word c at) (ev : v ≡ w) (em : m ≡ 261)
    (go : (at + 2 + word c at ≤ length c) × (r.written + 261 ≤ length is))
    (t : Told (play image r.session (part c (at + 2) v) 258) p image' (part is r.written m) new) (kept : length image' ≡ length image)
    (kept' : length new ≡ length (part is r.written m)) where
  roomy : r.written + m ≤ length is
  roomy = omega (arith, go.1)

  abbrev o : Outcome
  o = play image r.session (part c (at + 2) v) 258

  abbrev os : List Outcome
  os = outcomes l s c r.played

  abbrev r' : Ran
  r' = record { played = r.played + 1; written = r.written + (3 + p.count); session = p.session }

  more : outcomes l s c (r.played + 1) ≡ os ++ (o ∷ [])
  more =
      outcome c at r.played w f.here e l s f.after.image' f.after.session
      ∙ ap (λ (i : ℕ). os ++ (play image r.session (part c (at + 2) i) 258 ∷ [])) (sym ev)

  afterwards : After (os ++ (o ∷ [])) l s was r' image' (splice is r.written m new)
  afterwards =
      let a = f.after in
      record {
        session = t.session ∙ sym (last_more l s os o).1;
        image' = t.image' ∙ sym (last_more l s os o).0;
        written = omega (arith, t.count, a.written, ap length (answers_more os o), length-append (answers os) (answer o));
        answers' =
            joined was (answers os) (answer o) is new r.written m a.answers' a.written roomy t.answer' kept'
            ∙ ap (λ (x : List ℕ). laid was x) (sym (answers_more os o));
      }

  pub onward : r.played < n → stops l s c (length was) r.played ≡ false → (known ≡ true → Ready image' p.session)
      → Sofar l s c n was known image' (splice is r.written m new) r' (at + 2 + w)
  onward lt going ready =
      record {
        few = omega arith;
        search = search_more (stops l s c (length was)) n r.played lt f.search going;
        place = omega (arith, go.0);
        here = further c at r.played w f.here e;
        after = rw more afterwards;
        room = omega (arith, short t kept', length_part is r.written m roomy, f.same');
        same = kept ∙ f.same;
        same' = same_len_mid r.written m is new kept' ∙ f.same';
        ready = ready;
      }
