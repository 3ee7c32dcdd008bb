-- Laws of parts of lists: what a part that was lent and came back makes of the whole.
use Prim.Native.Nat.{ℕ, ◌+◌, ◌-◌, ◌≤◌}
use mathlib.Core.Path.{◌≡◌, ◌∙◌}
use mathlib.Core.List.{List, [], ◌++◌, append-nil}
use native.Mathlib.Omega.{arith}
use native.Mathlib.Nat.{add-sub_cancel_left}
use lib.ListN.{length, take, drop, drop_of_length-le}
use lib.Seq.{take-length}
use Rattle.card.specs.Bytes.{part, splice}
use Rattle.card.specs.Answers.{laid}
use Rattle.card.proofs.Parts.{length_part}

-- all of a list, copied over as many bytes, is laid
pub copied : (new to was : List ℕ) (n : ℕ) → n ≡ length new → to ≡ take n new ++ drop n was → to ≡ laid was new
copied new to was n e h = h ∙ simp (e, take-length)

-- what was copied over a part of its own length is spliced
pub spliced : (b new to : List ℕ) (at n k : ℕ) → at + length new ≤ length b → n ≡ length new → k ≡ at + length new - at
    → to ≡ take n new ++ drop n (part b at k)
    → take at b ++ (to ++ drop k (drop at b)) ≡ splice b at (length new) new
spliced b new to at n k h e f g =
    let m : k ≡ length new = f ∙ add-sub_cancel_left at (length new) in
    let n' : ℕ = length new in
    let few : length (part b at n') ≤ n' = omega (arith, length_part b at n' h) in
    let all : drop n' (part b at n') ≡ [] = drop_of_length-le (part b at n') few in
    simp (copied new to (part b at k) n e g, all, m, append-nil)

-- a part copied to the front of a room is laid
pub laid_part : (b to was : List ℕ) (at n k m : ℕ) → at + n ≤ length b → k ≡ at + n - at → m ≡ length (part b at k)
    → to ≡ take m (part b at k) ++ drop m was
    → to ≡ laid was (part b at n)
laid_part b to was at n k m h f e g =
    let z : k ≡ n = f ∙ add-sub_cancel_left at n in
    copied (part b at n) to was m (e ∙ simp z) (g ∙ simp z)
