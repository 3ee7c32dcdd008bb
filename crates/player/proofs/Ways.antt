-- The ways out of `perform` and `play`, as the tests of the code find them.
use Prim.Native.Nat.{ℕ, ◌-◌, ◌≤◌, ◌<◌}
use mathlib.Core.Path.{◌≡◌, refl, ap, subst}
use mathlib.Core.List.{List, []}
use mathlib.Core.Bool.{Bool, true, false, false≢true}
use lib.ListN.{length, drop, length-drop}
use borrow.Author.Tests.{eq-eqb, ne_eqb, lt-ltb, le-ltb}
use Rattle.std.specs.Prelude.{Result, Ok, Err}
use Rattle.card.specs.Answers.{first, reply, refusal}
use Rattle.card.specs.Bytes.{byte}
use Rattle.card.specs.Forms.{formed, sent, instruction_of}
use Rattle.card.specs.Layout.{head}
use Rattle.card.specs.Play.{Outcome, act, opened, told, done, declined, perform_as, perform, play}
use Rattle.card.specs.Sessions.{fits}
use Rattle.card.specs.Shelf.{is_image}
use Rattle.card.specs.declared.Answer.{Answer}
use Rattle.card.specs.Refused.{word_of}
use Rattle.card.specs.declared.Refused.{Refused}
use Rattle.access.proofs.Refusals.{some_word}
use Rattle.card.specs.declared.Answer.TheVariants.{Played as Done, NotAnImage, DoesNotFit, RoomTooSmall, WrongLength}
use Rattle.card.specs.declared.Instruction.{Instruction}
use Rattle.card.specs.declared.Session.{Session}
use Rattle.acts.specs.Ready.{Ready}
use Rattle.shelf_check.specs.Examined.{answer_of, examined}
use Rattle.shelf_check.proofs.Examining.{passes, both_hold}
use Rattle.player.specs.declared.Played.{Played}
use Rattle.player.specs.Ends.{Ends}

-- an outcome by another name
pub ends : {o o' : Outcome} {r : Played} {image was is : List ℕ} → o ≡ o' → Ends o r image was is → Ends o' r image was is
ends {r = r} {image = image} {was = was} {is = is} e = subst (λ (x : Outcome). Ends x r image was is) e

module _ (i : Instruction) (l : List ℕ) (s : Session) (c : List ℕ) where
  pub wrong_class : (byte c 0 ≡ 0xa0 → ⊥) → told l (reply [] 0x6e00 s) ≡ perform_as i l s c
  unfolding perform_as
  wrong_class h = simp (perform_as, ne_eqb _ _ h)

  module _ (h : byte c 0 ≡ 0xa0) where
    pub wrong_form : (k : Refused) → word_of k ≡ first (formed i (byte c 2) (byte c 3) (byte c 4))
        → told l (refusal s (word_of k)) ≡ perform_as i l s c
    unfolding perform_as
    wrong_form k e = simp (perform_as, eq-eqb _ _ h, ← e, ne_eqb _ _ (some_word k))

    module _ (e : 0 ≡ first (formed i (byte c 2) (byte c 3) (byte c 4))) (n : ℕ) (q : n ≡ sent i (byte c 4)) where
      pub wrong_length : (length c - 5 ≡ n → ⊥) → declined WrongLength l s ≡ perform_as i l s c
      unfolding perform_as
      wrong_length m = simp (perform_as, eq-eqb _ _ h, ← e, eq-eqb 0 0 refl, ← q, length-drop, ne_eqb _ _ m)

      pub performed : length c - 5 ≡ n
          → done l s.current (act i (head l) (opened l s.current) s (byte c 2) (byte c 3) (byte c 4) (drop 5 c)) ≡ perform_as i l s c
      unfolding perform_as
      performed m = simp (perform_as, eq-eqb _ _ h, ← e, eq-eqb 0 0 refl, ← q, length-drop, eq-eqb _ _ m)

pub by_name : (l : List ℕ) (s : Session) (c : List ℕ) (i : Instruction) → i ≡ instruction_of (byte c 1) → perform_as i l s c ≡ perform l s c
unfolding perform
by_name l s c i e = ap (λ (x : Instruction). perform_as x l s c) e

-- the answer of an examination
abbrev fault : Result (Unit {0}) Answer → Answer
fault (Ok x) = Done
fault (Err a) = a

module _ (l : List ℕ) (s : Session) (c : List ℕ) (n : ℕ) where
  -- an examination that finds a fault has play's answer
  pub stopped : (a : Answer) → Err a ≡ examined l s → declined a l s ≡ play l s c n
  unfolding examined play
  stopped a = go (is_image l) (fits (head l) s) _
    where
      go : (b f : Bool) (o : Outcome) → Err a ≡ answer_of b f
          → declined a l s
          ≡ elim b [ false ↦ declined NotAnImage l s | true ↦ elim f [ false ↦ declined DoesNotFit l s | true ↦ o ] ]
      go true true o e = absurd (false≢true (ap passes e))
      go true false o e = ap (λ (x : Answer). declined x l s) (ap fault e)
      go false f o e = ap (λ (x : Answer). declined x l s) (ap fault e)

  module _ (r : Ready l s) where
    pub no_room : n < 258 → declined RoomTooSmall l s ≡ play l s c n
    unfolding play
    no_room h = simp (play, r.image, r.session, lt-ltb _ _ h)

    pub too_short : 258 ≤ n → length c < 5 → declined WrongLength l s ≡ play l s c n
    unfolding play
    too_short h k = simp (play, r.image, r.session, le-ltb _ _ h, lt-ltb _ _ k)

    pub onward : 258 ≤ n → 5 ≤ length c → perform l s c ≡ play l s c n
    unfolding play
    onward h k = simp (play, r.image, r.session, le-ltb _ _ h, le-ltb _ _ k)

-- one that finds none says what a command asks
pub ready : {l : List ℕ} {s : Session} → Ok tt ≡ examined l s → Ready l s
ready {l} {s} e = let h = both_hold l s e in record { image = h.0; session = h.1 }
