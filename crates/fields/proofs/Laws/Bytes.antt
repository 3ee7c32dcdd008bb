-- Bytes with their count: zeros stand after those that count.
use Prim.Native.Nat.{ℕ, ◌+◌, ◌≤◌}
use mathlib.Core.Path.{◌≡◌, ap, ◌∙◌, sym}
use mathlib.Core.List.{List, ◌++◌, append_assoc}
use native.Mathlib.Omega.{arith}
use lib.ListN.{length, take, replicate, length-append, length-replicate}
use lib.Seq.{length-take-le}
use Rattle.fields.specs.Bytes.{Counted, count_back}
use Rattle.fields.specs.Text.{padded, placed, text}
use Rattle.fields.proofs.Laws.Text.{lead_le, text_length, taken}

-- Where the bytes that count are equal, all bytes are, and the counts.
pub one : (n : ℕ) (b b' : List ℕ) (c c' : ℕ) → Counted n c b → Counted n c' b' → take c b ≡ take c' b' → (b ≡ b') × (c ≡ c')
one n b b' c c' h h' e =
    (h.1 ∙ ap (λ (t : List ℕ). padded 0 n t) e ∙ sym h'.1, sym (count_back n c b h) ∙ ap (λ (t : List ℕ). length t) e ∙ count_back n c' b' h')

pub none : (n : ℕ) → Counted n 0 (replicate n 0)
unfolding padded
none n = (omega arith, ap (λ (k : ℕ). replicate k 0) (omega arith))

-- a text with zeros after it counts as the text
module _ (n : ℕ) (t b : List ℕ) (h : length t ≤ n) (e : b ≡ padded 0 n t) where
  pub text_of : take (length t) b ≡ t
  text_of = ap (λ (l : List ℕ). take (length t) l) e ∙ taken 0 n t

  pub counted : Counted n (length t) b
  counted = (h, e ∙ ap (λ (l : List ℕ). padded 0 n l) (sym text_of))

-- the text of a field, of k bytes, in n zeros
module _ (n limit k : ℕ) (l w : List ℕ) (ek : k ≡ length (text limit l)) (h : length l ≤ n)
    (e : w ≡ padded 0 (length {A = ℕ} (replicate n 0)) (text limit l)) where
  filled_up : w ≡ padded 0 n (text limit l)
  filled_up = e ∙ ap (λ (m : ℕ). padded 0 m (text limit l)) (length-replicate n 0)

  fits : length (text limit l) ≤ n
  fits = omega (arith, text_length limit 0 l, lead_le limit l)

  pub text_counts : Counted n k w
  text_counts = rw ek (counted n (text limit l) w fits filled_up)

  pub is_text : take k w ≡ text limit l
  is_text = rw ek (text_of n (text limit l) w fits filled_up)

-- more bytes after those that count
module _ (n count : ℕ) (b now more w : List ℕ) (long : length b ≡ n) (c : count ≤ n) (is : take count b ≡ now)
    (h : length now + length more ≤ n) (e : w ≡ placed 0 count b more) where
  all : w ≡ padded 0 n (now ++ more)
  unfolding padded placed
  all =
      let k = length-take-le count b (omega arith) in
      e
      ∙ rw (is, append_assoc)
      (ap (λ (m : ℕ). now ++ (more ++ replicate m 0)) (omega (arith, k, ap length is, length-append now more)))

  size : length (now ++ more) ≡ count + length more
  size = omega (arith, length-append now more, length-take-le count b (omega arith), ap length is)

  pub more_count : Counted n (count + length more) w
  more_count = rw (← size) (counted n (now ++ more) w (omega (arith, length-append now more)) all)

  pub is_more : take (count + length more) w ≡ now ++ more
  is_more = rw (← size) (text_of n (now ++ more) w (omega (arith, length-append now more)) all)
