-- The IMSI read by its length and by its digits' count is the same.
use Prim.Native.Nat.{ℕ, zero, suc, ◌+◌, ◌-◌, ◌*◌, ◌%◌, ◌≤◌}
use mathlib.Core.Path.{◌≡◌, refl, ap, ◌∙◌, sym}
use mathlib.Core.List.{List, [], ◌∷◌, ◌++◌}
use mathlib.Core.Bool.{Bool, true, false, ◌&&◌, ◌||◌}
use native.Mathlib.Omega.{arith}
use native.Mathlib.Decide.{ℕ_discrete}
use borrow.Author.Tests.{eq-eqb, eqb-true, le-leb, leb-true}
use lib.Dec.{eqb, leb}
use lib.ListN.{length, get_or, take, drop, replicate, length-drop, length-append, take-append-drop}
use lib.Seq.{take_all, take-suc, get_or-drop, drop-cons, take-append_seam, length-take-le, get_or-append_seam, append_snoc}
use Rattle.fields.specs.Halves.{halves}
use Rattle.fields.specs.Text.{filled, padded, within}
use Rattle.codings.specs.Answers.{Outcome, outcome, judge}
use Rattle.codings.specs.Imsi as imsi
use Rattle.codings.specs.Imsi.{mark, size, odd, even}
use Rattle.codings.specs.ImsiByCount.{digits_in, numbered, decode, ByCount}
use Rattle.codings.proofs.Laws.Tests.{both, iff, or_true}
use Rattle.fields.proofs.Laws.Fields.{filled_is}
use Rattle.codings.proofs.Laws.Imsi.{odd as is_odd, even as is-even}
use Rattle.codings.proofs.Laws.ImsiTrip.{Told, told}
use Rattle.fields.proofs.Laws.Text.{fills, lead_le, closed_padded, text_padded, text_length, text_within, padded_text, taken}
use Rattle.fields.proofs.Laws.Halves.{halves_length, halves_append, halves_fill, halves_take, halves_drop, same_halves}

-- What both readings say of the first byte n and the others xs: their halves are the mark, the digits t, and F.
pub record Form (n : ℕ) (xs t : List ℕ) : Type 0 where
  pub some : 1 ≤ length t
  pub few : length t ≤ 15
  pub digits : within 10 t ≡ true
  pub form : halves xs ≡ mark (length t) ∷ padded 15 15 t
  pub long : n ≡ size (length t)

module _ (n : ℕ) (xs t : List ℕ) (f : Form n xs t) where
  digits_are : digits_in (n ∷ xs) ≡ t
  unfolding digits_in halves
  digits_are = rw f.form (text_padded 10 15 15 t (omega arith) f.digits)

  -- the form is numbered
  form_numbered : numbered (n ∷ xs) ≡ true
  unfolding numbered halves
  form_numbered =
      rw (
        digits_are,
        f.form,
        closed_padded 10 15 15 t (omega arith) f.digits,
        le-leb 1 (length t) f.some,
        eq-eqb n (size (length t)) f.long,
        eq-eqb (mark (length t)) (mark (length t)) refl,
      )

-- filler in bytes is filler in halves
fill_bytes : (l : List ℕ) → filled 15 (halves l) ≡ true → filled 255 l ≡ true
fill_bytes l e =
    ap (λ (x : List ℕ). filled 255 x)
    (same_halves l (replicate (length l) 255) (filled_is 15 (halves l) e ∙ ap (λ (m : ℕ). replicate m 15) (halves_length l) ∙ sym (halves_fill (length l))))
    ∙ fills 255 (length l)

fill_halves : (l : List ℕ) → filled 255 l ≡ true → halves l ≡ replicate (2 * length l) 15
fill_halves l e = ap halves (filled_is 255 l e) ∙ halves_fill (length l)

-- after a text all is filler
fill_after : (f : ℕ) (t : List ℕ) (m j : ℕ) → length t ≤ j → filled f (drop j (t ++ replicate m f)) ≡ true
unfolding filled
fill_after f [] m zero h = fills f m
fill_after f [] zero (suc j) h = refl
fill_after f [] (suc m) (suc j) h = fill_after f [] m j (omega arith)
fill_after f (x ∷ xs) m zero h = absurd (omega arith)
fill_after f (x ∷ xs) m (suc j) h = fill_after f xs m j (omega arith)

conses : (a b : ℕ) (p q : List ℕ) → a ≡ b → p ≡ q → a ∷ p ≡ b ∷ q
conses a b p q e f = rw (e, f)

told_form : (n : ℕ) (xs : List ℕ) → length xs ≡ 8 → Told (n ∷ xs) → Form n xs (digits_in (n ∷ xs))
unfolding halves digits_in
told_form n xs e t =
    let f = drop 1 (halves xs) in
    let k : length f ≡ 15 = omega (arith, length-drop 1 (halves xs), halves_length xs) in
    record {
      some = t.some;
      few = omega (arith, text_length 10 15 f, lead_le 10 f);
      digits = text_within 10 15 f;
      form =
          drop-cons (halves xs) 0 0 (omega (arith, halves_length xs))
          ∙ conses _ _ _ _ t.marked
          (sym (ap (λ (m : ℕ). padded 15 m (digits_in (n ∷ xs))) (sym k) ∙ padded_text 10 15 (drop 1 (halves xs)) t.shut));
      long = t.bytes;
    }

-- one element more than the text
one_more : (t r : List ℕ) (x : ℕ) → take (suc (length t)) (t ++ (x ∷ r)) ≡ t ++ (x ∷ [])
one_more [] r x = refl
one_more (y ∷ ys) r x = rw (one_more ys r x)

module _ (t : List ℕ) (some : 1 ≤ length t) (few : length t ≤ 15) (w : within 10 t ≡ true) where
  odd_form : length t % 2 ≡ 1 → odd (take (2 * size (length t)) (mark (length t) ∷ padded 15 15 t)) ≡ true
  unfolding odd
  odd_form h =
      rw (twice h, ← is_odd (length t) h, taken 15 15 t, w)
    where
      twice : length t % 2 ≡ 1 → 2 * size (length t) ≡ suc (length t)
      twice h = omega arith

  last_f : length t ≤ 14 → ◌≡◌ {A = List ℕ} (replicate (15 - length t) 15) (15 ∷ replicate (14 - length t) 15)
  last_f f = ap (λ (m : ℕ). replicate {A = ℕ} m 15) (less f)
    where
      less : length t ≤ 14 → 15 - length t ≡ suc (14 - length t)
      less f = omega arith

  even_halves : (length t % 2 ≡ 1 → ⊥) → take (2 * size (length t)) (mark (length t) ∷ padded 15 15 t) ≡ 1 ∷ (t ++ (15 ∷ []))
  unfolding padded
  even_halves h =
      rw (twice h, ← is-even (length t) h, last_f (omega arith)) (ap (λ (x : List ℕ). 1 ∷ x) (one_more t (replicate (14 - length t) 15) 15))
    where
      twice : (length t % 2 ≡ 1 → ⊥) → 2 * size (length t) ≡ suc (suc (length t))
      twice h = omega arith

  even_form : (length t % 2 ≡ 1 → ⊥) → even (take (2 * size (length t)) (mark (length t) ∷ padded 15 15 t)) ≡ true
  unfolding even
  even_form h = rw (even_halves h) (tests (length (t ++ (15 ∷ []))) (length-append t (15 ∷ [])))
    where
      tests : (n : ℕ) → n ≡ length t + 1
          → leb 3 (suc n)
          && (eqb (get_or (1 ∷ (t ++ (15 ∷ []))) (suc n - 1) 0) 15 && within 10 (take (suc n - 2) (t ++ (15 ∷ []))))
          ≡ true
      tests n e =
          let a : suc n - 1 ≡ suc (length t) = omega arith in
          let b : suc n - 2 ≡ length t = omega arith in
          rw (le-leb 3 (suc n) (omega arith), a, b, get_or-append_seam t 15 [] 0, take-append_seam t (15 ∷ []), w)

  either_form : odd (take (2 * size (length t)) (mark (length t) ∷ padded 15 15 t))
      || even (take (2 * size (length t)) (mark (length t) ∷ padded 15 15 t))
      ≡ true
  either_form = go (ℕ_discrete (length t % 2) 1)
    where
      go : Dec (length t % 2 ≡ 1)
          → odd (take (2 * size (length t)) (mark (length t) ∷ padded 15 15 t))
          || even (take (2 * size (length t)) (mark (length t) ∷ padded 15 15 t))
          ≡ true
      go (yes h) = rw (odd_form h)
      go (no h) = rw (even_form h) (or_true (odd (take (2 * size (length t)) (mark (length t) ∷ padded 15 15 t))))

-- the form is read by its length byte
module _ (n : ℕ) (xs t : List ℕ) (f : Form n xs t) where
  counted : halves (take n xs) ≡ take (2 * size (length t)) (mark (length t) ∷ padded 15 15 t)
  counted = rw (halves_take n xs, f.form, f.long)

  after_form : filled 255 (drop n xs) ≡ true
  unfolding padded
  after_form = fill_bytes (drop n xs) (rw (halves_drop n xs, f.form, more) (fill_after 15 t (15 - length t) (2 * n - 1) (omega (arith, f.long))))
    where
      more : 2 * n ≡ suc (2 * n - 1)
      more = omega (arith, f.long)

  form_by_length : imsi.numbered (n ∷ xs) ≡ true
  unfolding imsi.numbered
  form_by_length =
      rw (
        le-leb 1 n (omega (arith, f.long)),
        le-leb n 8 (omega (arith, f.long, f.few)),
        after_form,
        counted,
        either_form t f.some f.few f.digits,
      )

-- a last element like the filler after it
last_split : (q : List ℕ) (j x m : ℕ) → length q ≡ suc j → get_or q j 0 ≡ x → q ++ replicate m x ≡ take j q ++ replicate (suc m) x
last_split q j x m e f =
    ap (λ (y : List ℕ). y ++ replicate m x) (sym (take_all (suc j) q (omega arith)) ∙ take-suc q j 0 (omega arith))
    ∙ append_snoc (take j q) (get_or q j 0) (replicate m x)
    ∙ ap (λ (y : ℕ). take j q ++ (y ∷ replicate m x)) f

-- What the reading by the length byte tells: hs are the halves that it counts.
module _ (n : ℕ) (xs hs : List ℕ) (e : length xs ≡ 8) (one : 1 ≤ n) (eight : n ≤ 8) (eh : hs ≡ halves (take n xs)) (ff : filled 255 (drop n xs) ≡ true) where
  hs_length : length hs ≡ 2 * n
  hs_length = ap length eh ∙ halves_length (take n xs) ∙ ap (λ (m : ℕ). 2 * m) (length-take-le n xs (omega arith))

  whole : halves xs ≡ hs ++ replicate (16 - 2 * n) 15
  whole =
      ap halves (sym (take-append-drop n xs))
      ∙ halves_append (take n xs) (drop n xs)
      ∙ rw (← eh, fill_halves (drop n xs) ff) (ap (λ (m : ℕ). hs ++ replicate m 15) size_rest)
    where
      size_rest : 2 * length (drop n xs) ≡ 16 - 2 * n
      size_rest = omega (arith, length-drop n xs)

  from_odd : odd hs ≡ true → Form n xs (drop 1 hs)
  unfolding odd padded
  from_odd o =
      let g = both (eqb (get_or hs 0 0) 9) (within 10 (drop 1 hs)) o in
      let k : length (drop 1 hs) ≡ 2 * n - 1 = omega (arith, length-drop 1 hs, hs_length) in
      record {
        some = omega arith;
        few = omega arith;
        digits = g.1;
        form =
            whole
            ∙ ap (λ (x : List ℕ). x ++ replicate (16 - 2 * n) 15) (drop-cons hs 0 0 (omega (arith, hs_length)))
            ∙ conses _ _ _ _ (eqb-true _ _ g.0 ∙ is_odd (length (drop 1 hs)) (omega arith)) (ap (λ (m : ℕ). drop 1 hs ++ replicate m 15) (count k));
        long = omega arith;
      }
    where
      count : length (drop 1 hs) ≡ 2 * n - 1 → 16 - 2 * n ≡ 15 - length (drop 1 hs)
      count k = omega arith

  from_even : even hs ≡ true → Form n xs (take (length hs - 2) (drop 1 hs))
  unfolding even padded
  from_even v =
      let t = take (length hs - 2) (drop 1 hs) in
      let a = both (leb 3 (length hs)) (eqb (get_or hs 0 0) 1 && (eqb (get_or hs (length hs - 1) 0) 15 && within 10 t)) v in
      let b = both (eqb (get_or hs 0 0) 1) (eqb (get_or hs (length hs - 1) 0) 15 && within 10 t) a.1 in
      let d = both (eqb (get_or hs (length hs - 1) 0) 15) (within 10 t) b.1 in
      let three = leb-true 3 (length hs) a.0 in
      let k : length t ≡ 2 * n - 2 = length-take-le (length hs - 2) (drop 1 hs) (omega (arith, length-drop 1 hs, three)) ∙ ap (λ (m : ℕ). m - 2) hs_length in
      record {
        some = omega (arith, hs_length, three);
        few = omega arith;
        digits = d.1;
        form =
            whole
            ∙ ap (λ (x : List ℕ). x ++ replicate (16 - 2 * n) 15) (drop-cons hs 0 0 (omega (arith, hs_length)))
            ∙ conses _ _ _ _ (eqb-true _ _ b.0 ∙ is-even (length t) (λ z. omega arith)) (rest (three) (eqb-true _ _ d.0) k);
        long = omega (arith, hs_length, three);
      }
    where
      next : 3 ≤ length hs → 1 + (length hs - 2) ≡ length hs - 1
      next three = omega arith

      count : 3 ≤ length hs → length (take (length hs - 2) (drop 1 hs)) ≡ 2 * n - 2
          → suc (16 - 2 * n) ≡ 15 - length (take (length hs - 2) (drop 1 hs))
      count three k = omega (arith, hs_length)

      rest : 3 ≤ length hs → get_or hs (length hs - 1) 0 ≡ 15 → length (take (length hs - 2) (drop 1 hs)) ≡ 2 * n - 2
          → drop 1 hs ++ replicate (16 - 2 * n) 15
          ≡ take (length hs - 2) (drop 1 hs) ++ replicate (15 - length (take (length hs - 2) (drop 1 hs))) 15
      rest three f k =
          last_split (drop 1 hs) (length hs - 2) 15 (16 - 2 * n) (omega (arith, length-drop 1 hs))
          (get_or-drop 1 hs (length hs - 2) 0 ∙ ap (λ (i : ℕ). get_or hs i 0) (next three) ∙ f)
          ∙ ap (λ (m : ℕ). take (length hs - 2) (drop 1 hs) ++ replicate m 15) (count three k)

by_length_form : (n : ℕ) (xs : List ℕ) → length xs ≡ 8 → imsi.numbered (n ∷ xs) ≡ true
    → (numbered (n ∷ xs) ≡ true) × (digits_in (n ∷ xs) ≡ imsi.digits_in (halves (take n xs)))
unfolding imsi.numbered imsi.digits_in
by_length_form n xs e v =
    let hs = halves (take n xs) in
    let a = both (leb 1 n) (leb n 8 && (filled 255 (drop n xs) && (odd hs || even hs))) v in
    let b = both (leb n 8) (filled 255 (drop n xs) && (odd hs || even hs)) a.1 in
    let c = both (filled 255 (drop n xs)) (odd hs || even hs) b.1 in
    go (leb-true _ _ a.0) (leb-true _ _ b.0) c.0 (odd (halves (take n xs))) refl c.1
  where
    go : 1 ≤ n → n ≤ 8 → filled 255 (drop n xs) ≡ true → (o : Bool) → odd (halves (take n xs)) ≡ o
        → o || even (halves (take n xs)) ≡ true
        → (numbered (n ∷ xs) ≡ true)
        × (digits_in (n ∷ xs)
        ≡ elim o [ true ↦ drop 1 (halves (take n xs)) | false ↦ take (length (halves (take n xs)) - 2) (drop 1 (halves (take n xs))) ])
    go one eight ff true p q =
        let f = from_odd n xs (halves (take n xs)) e one eight refl ff p in
        (form_numbered n xs _ f, digits_are n xs _ f)
    go one eight ff false p q =
        let f = from_even n xs (halves (take n xs)) e one eight refl ff q in
        (form_numbered n xs _ f, digits_are n xs _ f)

-- both tests agree, and so do the digits where they hold
alike : (l : List ℕ) → length l ≡ 9
    → (numbered l ≡ imsi.numbered l) × (imsi.numbered l ≡ true → digits_in l ≡ imsi.digits_in (imsi.counted l))
alike [] e = absurd (omega arith)
alike (n ∷ xs) e = (
  iff (numbered (n ∷ xs)) (imsi.numbered (n ∷ xs))
      (λ v. form_by_length n xs (digits_in (n ∷ xs)) (told_form n xs (omega arith) (told (n ∷ xs) v)))
      (λ v. (by_length_form n xs (omega arith) v).0),
  λ v. (by_length_form n xs (omega arith) v).1,
)

same_judge : (fits a b : Bool) (left p q : List ℕ) → (fits ≡ true → a ≡ b) → (fits ≡ true → b ≡ true → p ≡ q)
    → judge fits a left p ≡ judge fits b left q
unfolding judge
same_judge false a b left p q h k = refl
same_judge true a b left p q h k = rw (h refl) (go b (k refl))
  where
    go : (b : Bool) → (b ≡ true → p ≡ q)
        → ◌≡◌ {A = Outcome (List ℕ)}
        (elim b [ false ↦ outcome 6 left | true ↦ outcome 0 p ])
        (elim b [ false ↦ outcome 6 left | true ↦ outcome 0 q ])
    go true e = rw (e refl)
    go false e = refl

pub decodes_by_count : ByCount
unfolding decode imsi.decode
decodes_by_count l =
    same_judge _ _ _ _ _ _ (λ f. (alike l (eqb-true (length l) 9 f)).0) (λ f v. (alike l (eqb-true (length l) 9 f)).1 v)
