-- Laws of lists whose front or whose middle was lent as a part and came back.
use Prim.Native.Nat.{ℕ, ◌≤◌, ◌<◌}
use mathlib.Core.Path.{◌≡◌, sym, ap, ◌∙◌}
use mathlib.Core.List.{List, ◌++◌}
use native.Mathlib.Omega.{arith}
use lib.ListN.{length, take, drop, set, take-append-drop, length-append, length-set}
use lib.Seq.{length-take-le, take-append-le, take-take, set-append_left}
use Rattle.card.specs.Bytes.{part, splice}
use Rattle.card.specs.Play.{headed}

-- the first n elements put back, as they are or with one of them set; a part put back
pub front_back : (x : List ℕ) (n : ℕ) → n ≤ length x → headed x (take n x) ≡ x
front_back x n h = simp (length-take-le n x h, take-append-drop)

pub front_set : (x : List ℕ) (n at v : ℕ) → at < n → n ≤ length x → headed x (set (take n x) at v) ≡ set x at v
front_set x n at v l h =
    let e : length (set (take n x) at v) ≡ n = length-set (take n x) at v ∙ length-take-le n x h in
    let m : at < length (take n x) = omega (arith, length-take-le n x h) in
    ap (λ (k : ℕ). set (take n x) at v ++ drop k x) e ∙ sym (set-append_left (take n x) (drop n x) at v m)
    ∙ ap (λ (y : List ℕ). set y at v) (take-append-drop n x)

pub part_back : (x : List ℕ) (at n : ℕ) → splice x at n (part x at n) ≡ x
part_back x at n = simp take-append-drop

-- what stands before a part that was written, and how long the list then is at least
pub front_spliced : (x new : List ℕ) (n at k : ℕ) → n ≤ at → at ≤ length x → take n (splice x at k new) ≡ take n x
front_spliced x new n at k h l =
    take-append-le n (take at x) (new ++ drop k (drop at x)) (omega (arith, length-take-le at x l)) ∙ take-take n at x h

pub long_spliced : (x new : List ℕ) (at k : ℕ) → at ≤ length x → at ≤ length (splice x at k new)
long_spliced x new at k l = omega (arith, length-append (take at x) (new ++ drop k (drop at x)), length-take-le at x l)
