-- Bytes with their count, in fixed memory: zeros stand after those that count.
use Rattle.std.specs.Prelude.{ℕ, ◌+◌, ◌-◌, ◌≤◌, ◌≡◌, List, length, take, replicate}
use Rattle.std.proofs.Common.{sym, ap, ◌∙◌, subst, le_trans, length-append, length-take-le}
use Rattle.std.proofs.lemmas.List.{length-replicate}
use Rattle.std.proofs.Math.Nat.{add_comm, sub-add-eq-max, le-max_left}
use Rattle.fields.specs.Text.{padded}

-- n bytes, of which so many count
abbrev pub Counted : ℕ → ℕ → List ℕ → Type 0
Counted n count b = (count ≤ n) × (b ≡ padded 0 n (take count b))

size : (n : ℕ) (t : List ℕ) → n ≤ length (padded 0 n t)
unfolding padded
size n t =
    subst (λ (k : ℕ). n ≤ k)
    (sym (length-append t (replicate (n - length t) 0)
    ∙ ap (λ (k : ℕ). length t + k) (length-replicate (n - length t) 0)
    ∙ add_comm (length t) (n - length t)
    ∙ sub-add-eq-max n (length t)))
    (le-max_left n (length t))

-- The bytes that count give all bytes back, and their count.
module _ (n count : ℕ) (b : List ℕ) (h : Counted n count b) where
  pub bytes_back : padded 0 n (take count b) ≡ b
  bytes_back = sym h.1

  pub count_back : length (take count b) ≡ count
  count_back = length-take-le count b (le_trans h.0 (subst (λ (k : ℕ). n ≤ k) (sym (ap (λ (l : List ℕ). length l) h.1)) (size n (take count b))))
