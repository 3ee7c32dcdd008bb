-- Refusals are exact: one law for the four codings of a fixed size.
use Prim.Native.Nat.{ℕ}
use mathlib.Core.Path.{◌≡◌, refl, ap, ◌∙◌, sym}
use mathlib.Core.Logic.{◌↔◌}
use mathlib.Core.List.{List}
use mathlib.Core.Bool.{Bool, true, false}
use native.Mathlib.Omega.{arith}
use borrow.Author.Tests.{eq-eqb, ne_eqb, eqb-true, eqb-false}
use lib.Dec.{eqb}
use lib.ListN.{length}
use Rattle.codings.specs.Answers.{Outcome, done, judge}
use Rattle.codings.specs.RoundTrips.{Coding}
use Rattle.codings.proofs.Laws.Answers.{answer_of, value_of, wrong-length, wrong_value, right, was_five, was_six, refusal}

-- no answer is two numbers
pub clash : {A : Type 0} (o : Outcome A) → o.answer ≡ 0 → o.answer ≡ 6 → ⊥
clash o z s = let e : ◌≡◌ {A = ℕ} 0 6 = sym z ∙ s in omega arith

module _ {A : Type 0} (n size : ℕ) (valid : Bool) (left v : A) where
  five : ((judge (eqb n size) valid left v).answer ≡ 5) ↔ ¬ (n ≡ size)
  five = (
    λ a. eqb-false n size (was_five _ _ _ _ a),
    λ k. sym (ap answer_of (wrong-length (eqb n size) valid left v (ne_eqb n size k))),
  )

module _ {A : Type 0} (size : ℕ) (p : List ℕ → Bool) (left : A) (v : List ℕ → A) (q : A → Bool) (b : A → List ℕ) where
  abbrev dec : List ℕ → Outcome A
  dec l = judge (eqb (length l) size) (p l) left (v l)

  abbrev enc : A → List ℕ → Outcome (List ℕ)
  enc a room = judge (eqb (length room) size) (q a) room (b a)

  module _ (back : (a : A) (room : List ℕ) → (enc a room).answer ≡ 0 → dec (enc a room).value ≡ done a)
      (forth : (l room : List ℕ) → (dec l).answer ≡ 0 → length room ≡ size → enc (dec l).value room ≡ done l) where
    -- a file that some value has is no refusal, and a value that some file has
    was_file : (l : List ℕ) (a : A) (room : List ℕ) → enc a room ≡ done l → (dec l).answer ≡ 0
    was_file l a room e =
        sym (ap (λ (x : List ℕ). (dec x).answer) (ap value_of e)) ∙ ap answer_of (back a room (ap answer_of e))

    was_value : (a : A) (room l : List ℕ) → length room ≡ size → dec l ≡ done a → (enc a room).answer ≡ 0
    was_value a room l r e =
        sym (ap (λ (x : A). (enc x room).answer) (ap value_of e)) ∙ ap answer_of (forth l room (ap answer_of e) r)

    no_file : (l : List ℕ) → ((dec l).answer ≡ 6) ↔ ((length l ≡ size) × ((a : A) (room : List ℕ) → ¬ (enc a room ≡ done l)))
    no_file l = (
      λ s. (eqb-true _ _ (was_six _ _ _ _ s).0, λ a room e. clash (dec l) (was_file l a room e) s),
      λ k. go k.0 k.1 (p l) refl,
    )
      where
        go : length l ≡ size → ((a : A) (room : List ℕ) → ¬ (enc a room ≡ done l)) → (t : Bool) → p l ≡ t → (dec l).answer ≡ 6
        go e k true h =
            absurd (k (dec l).value l (forth l l (sym (ap answer_of (right (eqb (length l) size) (p l) left (v l) (eq-eqb _ _ e) h))) e))
        go e k false h = sym (ap answer_of (wrong_value (eqb (length l) size) (p l) left (v l) (eq-eqb _ _ e) h))

    no_value : (a : A) (room : List ℕ) → ((enc a room).answer ≡ 6) ↔ ((length room ≡ size) × ((l : List ℕ) → ¬ (dec l ≡ done a)))
    no_value a room = (
      λ s. (
        eqb-true _ _ (was_six _ _ _ _ s).0,
        λ l e. clash (enc a room) (was_value a room l (eqb-true _ _ (was_six _ _ _ _ s).0) e) s,
      ),
      λ k. go k.0 k.1 (q a) refl,
    )
      where
        go : length room ≡ size → ((l : List ℕ) → ¬ (dec l ≡ done a)) → (t : Bool) → q a ≡ t → (enc a room).answer ≡ 6
        go e k true h =
            absurd (k (enc a room).value (back a room (sym (ap answer_of (right (eqb (length room) size) (q a) room (b a) (eq-eqb _ _ e) h)))))
        go e k false h = sym (ap answer_of (wrong_value (eqb (length room) size) (q a) room (b a) (eq-eqb _ _ e) h))

    pub coding : (file : List ℕ) → (dec file).answer ≡ 0 → Coding A size dec enc
    coding file some =
        record {
          back = back;
          forth = forth;
          file = file;
          some = some;
          decode5 = λ l. five (length l) size (p l) left (v l);
          encode5 = λ a room. five (length room) size (q a) room (b a);
          decode6 = no_file;
          encode6 = no_value;
          kept = λ a room k. refusal _ _ _ _ k;
        }
