-- Bytes and parts of a list of bytes, and the counting and searching that the rest is written in. "High byte first everywhere."
use Rattle.std.specs.Prelude.{ℕ, zero, suc, ◌+◌, ◌*◌, List, [], ◌∷◌, ◌++◌, Bool, true, false, ◌&&◌, not, get_or, take, drop, eqb}

-- the byte at a place, 0 past the end
abbrev pub byte : List ℕ → ℕ → ℕ
byte l at = get_or l at 0

-- two bytes, high byte first
unfoldable pub word : List ℕ → ℕ → ℕ
word l at = byte l at * 256 + byte l (at + 1)

-- the n bytes from a place on
abbrev pub part : List ℕ → ℕ → ℕ → List ℕ
part l at n = take n (drop at l)

-- the list with the n bytes from a place on replaced
abbrev pub splice : List ℕ → ℕ → ℕ → List ℕ → List ℕ
splice l at n new = take at l ++ (new ++ drop n (drop at l))

-- whether a test holds of every number below n
unfoldable pub every : ℕ → (ℕ → Bool) → Bool
every zero p = true
every (suc n) p = every n p && p n

-- whether a test holds of no number below n
unfoldable pub none : ℕ → (ℕ → Bool) → Bool
none n p = every n (λ k. not (p k))

-- 1 for a test that holds
abbrev pub bit : Bool → ℕ
bit true = 1
bit false = 0

-- how many numbers below n pass a test
unfoldable pub how_many : ℕ → (ℕ → Bool) → ℕ
how_many zero p = 0
how_many (suc n) p = how_many n p + bit (p n)

-- the first of n numbers from k on that passes a test, or k + n where none does
unfoldable pub first_from : (ℕ → Bool) → ℕ → ℕ → ℕ
first_from p zero k = k
first_from p (suc n) k = elim (p k) [ true ↦ k | false ↦ first_from p n (k + 1) ]

-- the first number below n that passes a test, or n where none does
abbrev pub find : ℕ → (ℕ → Bool) → ℕ
find n p = first_from p n 0

-- whether two lists are the same
unfoldable pub same : List ℕ → List ℕ → Bool
same [] [] = true
same [] (y ∷ ys) = false
same (x ∷ xs) [] = false
same (x ∷ xs) (y ∷ ys) = eqb x y && same xs ys
