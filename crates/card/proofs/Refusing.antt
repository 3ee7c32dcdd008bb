-- Always an answer, and refusals keep: from the commands to `play`.
use Rattle.std.specs.Prelude.{ℕ, Option, Some, None}
use Prim.Native.Nat.{ℕ, ◌+◌, ◌-◌, ◌*◌, ◌/◌, ◌%◌, ◌<◌, ◌≤◌}
use mathlib.Core.Path.{◌≡◌, refl, sym, ap, ◌∙◌}
use mathlib.Core.List.{List, [], ◌∷◌, ◌++◌}
use mathlib.Core.Logic.{◌⊎◌, inl, inr}
use native.Mathlib.Omega.{arith}
use native.Mathlib.Nat.{div-add-mod'}
use lib.ListN.{length, take, drop, set, length-append, length-set, take-append-drop}
use lib.Seq.{get_or-append_seam, get_or-append-add, set-append_left, length-take-le}
use Rattle.card.specs.Bytes.{byte, word}
use Rattle.card.specs.Layout.{index, code_at, file, start, head, contents}
use Rattle.card.specs.Images.{Image}
use Rattle.card.specs.Sessions.{dropped}
use Rattle.card.specs.Answers.{Reply, reply, refusal, response, Effect}
use Rattle.card.specs.Codes.{value, attempts_at}
use Rattle.card.specs.Forms.{instruction_of}
use Rattle.card.specs.Play.{Outcome, told, opened, headed, filled, afterwards, done}
use Rattle.card.specs.Demands.{Answered, AlwaysAnswered, status_word, carried_out, Lowered, Refused, Untouched, RefusalsKeep}
use Rattle.card.specs.declared.Session.{Session}
use Rattle.card.proofs.Tests.{apart}
use Rattle.card.proofs.Parts.{splice_self}
use Rattle.card.proofs.Frames.{placed}
use Rattle.card.proofs.Images.{image}
use Rattle.card.proofs.Heads.{head_agree, head_length, head_part}
use Rattle.card.proofs.Walk.{effect_of, by_play}
use Rattle.card.proofs.Keeping.{done as carried, kept, Fell, counter_in, E, ends}

pub always_answered : AlwaysAnswered
always_answered l s c room =
    by_play Answered l s c room (λ e. host 1 (omega arith) (omega arith)) (λ e. host 2 (omega arith) (omega arith))
    (host 3 (omega arith) (omega arith))
    (host 4 (omega arith) (omega arith))
    (card l (reply [] 0x6e00 s))
    (λ w. card l (refusal s w))
    (λ m g k. card _ (effect_of l s c).given)
  where
    host : (n : ℕ) → 0 < n → n ≤ 4 → Answered (record { host = n; response = []; image = l; session = s })
    host n p q = record { host = q; response = λ z. absurd (omega arith) }

    card : (x : List ℕ) (r : Reply) → Answered (told x r)
    card x r = record { host = omega arith; response = λ h. rw length-append (omega arith) }

-- The status word of a response.
word_told : (r : List ℕ) (a b : ℕ) → status_word (r ++ (a ∷ b ∷ [])) ≡ a * 256 + b
unfolding word
word_told r a b =
    let n : length (r ++ (a ∷ b ∷ [])) - 2 ≡ length r = simp length-append (omega arith) in
    ap (λ k. word (r ++ (a ∷ b ∷ [])) k) n
    ∙ (λ i. get_or-append_seam r a (b ∷ []) 0 i * 256 + get_or-append-add r (a ∷ b ∷ []) 1 0 i)

word_of : (r : Reply) → status_word (response r) ≡ r.word
word_of r = word_told r.bytes (r.word / 256) (r.word % 256) ∙ div-add-mod' r.word 256

-- An image with its own head and its own bytes is itself, and with one byte of the head set it has that byte set.
filled_self : (l : List ℕ) (c : Option ℕ) → filled l c (opened l c) ≡ l
unfolding contents
filled_self l None = refl
filled_self l (Some f) = splice_self l (start l f) (file l f).size

module _ (l : List ℕ) (m : Image l) where
  headed_self : headed l (head l) ≡ l
  unfolding head
  headed_self =
      let n : length (take (index l).store l) ≡ (index l).store = length-take-le (index l).store l (omega (arith, m.whole)) in
      ap (λ k. take (index l).store l ++ drop k l) n ∙ take-append-drop (index l).store l

  headed_set : (at v : ℕ) → at < length (head l) → headed l (set (head l) at v) ≡ set l at v
  headed_set at v p =
      ap (λ k. set (head l) at v ++ drop k l) (length-set (head l) at v)
      ∙ sym (set-append_left (head l) (drop (length (head l)) l) at v p)
      ∙ ap (λ x. set x at v) headed_self

module _ (l : List ℕ) (s : Session) (c : List ℕ) where
  abbrev Keeps : Outcome → Type 0
  Keeps o = Untouched l s c o

  host : (n : ℕ) → 0 < n → Keeps (record { host = n; response = []; image = l; session = s })
  host n p = record { declined = λ h. (refl, refl, refl); refused = λ z. absurd (omega arith) }

  card : (x : List ℕ) (r : Reply) → Refused l s c (told x r) → Keeps (told x r)
  card x r f = record { declined = λ h. absurd (h refl); refused = λ h w. f }

  early : (w : ℕ) (t : Session) → (t ≡ s) ⊎ (t ≡ dropped s) → Keeps (told l (reply [] w t))
  early w t b = card l (reply [] w t) (record { brief = refl; session = b; image = inl refl })

  effects : (e : Effect) → Image l → E (head l) (opened l s.current) s (instruction_of (byte c 1)) (byte c 3) (drop 5 c) e
      → Keeps (done l s.current e)
  effects e m (carried w) =
      record { declined = λ h. absurd (h refl); refused = λ h n. apart (ap carried_out (word_of e.given) ∙ w) n }
  effects e m (kept n t (q, p)) = card _ e.given (record { brief = ap (λ x. length (response (reply x e.given.word s))) n; session = t; image = image p })
    where
      at_head : (h : List ℕ) → e.head ≡ h → afterwards l s.current e ≡ headed l h
      at_head h p = (λ i. headed (filled l s.current (q i)) (p i)) ∙ ap (λ x. headed x h) (filled_self l s.current)

      image : (e.head ≡ head l) ⊎ Fell (head l) (instruction_of (byte c 1)) (byte c 3) (drop 5 c) e
          → (afterwards l s.current e ≡ l) ⊎ Lowered l c (done l s.current e)
      image (inl p) = inl (at_head (head l) p ∙ headed_self l m)
      image (inr f) = inr lowered
        where
          at : ℕ
          at = code_at f.number + attempts_at f.key

          in_head : code_at f.number + 20 ≤ (index l).store
          in_head = let p = placed l in let two = m.codes in let n = f.exists in omega arith

          lowered : Lowered l c (done l s.current e)
          lowered =
              let i = in_head in
              let k = counter_in f.key in
              record {
                key = f.key;
                number = f.number;
                left = f.left;
                tries = f.tries;
                exists = f.exists;
                wrong = λ w. f.wrong (ap (value f.key) (head_part l m (code_at f.number) 20 in_head) ∙ w);
                before = (head_agree l).at at (omega arith) (omega arith) ∙ f.before;
                image = at_head _ f.head ∙ headed_set l m at f.left (rw (head_length l m) (omega arith));
                tells = word_of e.given ∙ f.tells;
              }

pub refusals_keep : RefusalsKeep
refusals_keep l s c room =
    by_play (Keeps l s c) l s c room (λ e. host l s c 1 (omega arith)) (λ e. host l s c 2 (omega arith)) (host l s c 3 (omega arith))
    (host l s c 4 (omega arith))
    (early l s c 0x6e00 s (inl refl))
    (λ w. early l s c w (dropped s) (inr refl))
    (λ m g k.
    effects l s c (effect_of l s c) (image l m)
    (ends (head l) (opened l s.current) s _ (byte c 2) (byte c 3) (byte c 4) (drop 5 c) k.form k.bytes))
