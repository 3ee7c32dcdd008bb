-- What a line of at most so many bytes holds.
use Rattle.std.proofs.Common.{◌≡◌, ◌≤◌, ◌+◌, ◌<◌, ℕ, zero, suc, List, [], ◌∷◌, ◌++◌, take, length, get_or, refl, sym, ap, ◌∙◌, arith, append_assoc, Option, Some, None, Result, Ok, Err, OnOk, IfSome}
use Rattle.std.specs.Fmt.{WritesText}
use Rattle.std.specs.List.{FoldsTo, concat}
use Rattle.std.proofs.lemmas.List.{take_more, length-take}

-- a line that is not too long stays
pub take_whole : (n : ℕ) (xs : List ℕ) → length xs ≤ n → take n (xs ++ []) ≡ xs
take_whole zero [] h = refl
take_whole zero (x ∷ xs) h = absurd (omega arith)
take_whole (suc n) [] h = refl
take_whole (suc n) (x ∷ xs) h = ap (λ l. x ∷ l) (take_whole n xs (omega arith))

-- what was left out before stays out
pub take_on : (n : ℕ) (xs ys : List ℕ) → take n (take n xs ++ ys) ≡ take n (xs ++ ys)
take_on zero xs ys = refl
take_on (suc n) [] ys = refl
take_on (suc n) (x ∷ xs) ys = ap (λ l. x ∷ l) (take_on n xs ys)

-- one byte more of those that are put at the end
pub take_next : (n : ℕ) (xs ys : List ℕ) (i d : ℕ) → i < length ys → take n (take n (xs ++ take i ys) ++ get_or ys i d ∷ []) ≡ take n (xs ++ take (i + 1) ys)
take_next n xs ys i d h = rw (take_on, append_assoc, ← take_more ys i d h) refl

-- one piece after the other is all of them
pub take_pieces : (n : ℕ) (xs : List ℕ) (pieces : List (List ℕ)) (ys : List ℕ) → length xs ≤ n → FoldsTo (λ old text new. new ≡ take n (old ++ text)) xs pieces ys → ys ≡ take n (xs ++ concat pieces)
take_pieces n xs [] ys h e = sym e ∙ sym (take_whole n xs h)
take_pieces n xs (p ∷ pieces) ys h (j, e, rest) =
    let fits : length j ≤ n = rw e (omega (arith, length-take n (xs ++ p))) in
    rw (take_pieces n j pieces ys fits rest, e, take_on, append_assoc) refl

-- a text that was printed stands at the end
pub take_printed : {E : Type 0} (r : Result (Unit {0}) E) (o : Option (List ℕ)) (n : ℕ) (xs ys : List ℕ) → length xs ≤ n → OnOk r (WritesText (λ old text new. new ≡ take n (old ++ text)) xs o ys) → OnOk r (IfSome o (λ printed. ys ≡ take n (xs ++ printed)))
take_printed (Ok u) (Some text) n xs ys h w = rw (← w.whole) (take_pieces n xs w.parts ys h w.calls)
take_printed (Ok u) None n xs ys h w = tt
take_printed (Err e) o n xs ys h w = tt
