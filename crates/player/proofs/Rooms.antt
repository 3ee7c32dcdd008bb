-- Laws of the room: the word after the data, and a room of which the first bytes were lent.
use Prim.Native.Nat.{ℕ, suc, ◌+◌, ◌≤◌}
use mathlib.Core.Path.{◌≡◌, refl, sym, ap, ◌∙◌}
use mathlib.Core.List.{List, [], ◌∷◌, ◌++◌, append_assoc}
use native.Mathlib.Omega.{arith}
use native.Mathlib.Numerals.{add-one}
use lib.ListN.{length, get_or, take, drop, set, length-append, length-drop, take-append-drop}
use lib.Seq.{drop-cons, set_at, drop-append-le, length-take-le}
use Rattle.card.specs.Answers.{laid}

-- two bytes after the data that lie in the room
module _ (d was : List ℕ) (hi lo : ℕ) (h : length d + 2 ≤ length was) where
  rest : drop (length d) was ≡ (get_or was (length d) 0 ∷ get_or was (length d + 1) 0 ∷ drop (length d + 2) was)
  rest =
      let n : ℕ = length d in
      let p : drop (suc n) was ≡ (get_or was (suc n) 0 ∷ drop (suc (suc n)) was) = drop-cons was (suc n) 0 (omega arith) in
      let q : suc (n + 1) ≡ n + 2 = omega arith in
      drop-cons was n 0 (omega arith) ∙ ap (λ (y : List ℕ). get_or was n 0 ∷ y) p
      ∙ ap (λ (k : ℕ). get_or was n 0 ∷ get_or was k 0 ∷ drop (suc k) was) (sym (add-one n))
      ∙ ap (λ (k : ℕ). get_or was n 0 ∷ get_or was (n + 1) 0 ∷ drop k was) q

  pub closed : set (set (laid was d) (length d) hi) (length d + 1) lo ≡ laid was (d ++ (hi ∷ lo ∷ []))
  closed =
      let n : ℕ = length d in
      let b : ℕ = get_or was (n + 1) 0 in
      let r : List ℕ = drop (n + 2) was in
      ap (λ (y : List ℕ). set (set (d ++ y) n hi) (n + 1) lo) rest
      ∙ ap (λ (y : List ℕ). set y (n + 1) lo) (set_at d (get_or was n 0) (b ∷ r) hi n refl)
      ∙ ap (λ (y : List ℕ). set y (n + 1) lo) (sym (append_assoc d (hi ∷ []) (b ∷ r)))
      ∙ set_at (d ++ (hi ∷ [])) b r lo (n + 1) (length-append d (hi ∷ []))
      ∙ append_assoc d (hi ∷ []) (lo ∷ r)
      ∙ sym (append_assoc d (hi ∷ lo ∷ []) r)
      ∙ ap (λ (k : ℕ). (d ++ (hi ∷ lo ∷ [])) ++ drop k was) (sym (length-append d (hi ∷ lo ∷ [])))

-- the first k bytes of a room were lent for the data, and came back as many
module _ (d was new : List ℕ) (k : ℕ) (lent : k ≤ length was) (e : new ≡ laid (take k was) d) (same : length new ≡ length (take k was)) where
  -- so the data are at most k bytes
  pub within : length d ≤ k
  within =
      omega (arith, ap length (sym e) ∙ same, length-append d (drop (length d) (take k was)), length-take-le k was lent)

  pub behind : new ++ drop k was ≡ laid was d
  behind =
      ap (λ (y : List ℕ). y ++ drop k was) e
      ∙ append_assoc d (drop (length d) (take k was)) (drop k was)
      ∙ ap (λ (y : List ℕ). d ++ y) (sym (drop-append-le (length d) (take k was) (drop k was) (omega (arith, within, length-take-le k was lent))))
      ∙ ap (λ (y : List ℕ). d ++ drop (length d) y) (take-append-drop k was)

-- a room is as long after data that fit it
pub long : (was d : List ℕ) → length was ≤ length (laid was d)
long was d = omega (arith, length-append d (drop (length d) was), length-drop (length d) was)
