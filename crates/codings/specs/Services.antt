-- Service table, 2 bytes or more: two bits each, first "allocated", second "activated", which has no meaning without the first.
-- A service past the end reads as not allocated; service 0 is refusal 6. Writing changes one service's bits; past the end is 6;
-- "not allocated" clears the first bit and keeps the second.
use Rattle.std.specs.Prelude.{ℕ, ◌+◌, ◌-◌, ◌*◌, ◌/◌, ◌%◌, ◌^◌, List, true, false, ◌&&◌, eqb, leb, length, get_or, set}
use Rattle.codings.specs.Answers.{Outcome, judge}
use Rattle.codings.specs.declared.services.Service.{Service}
use Rattle.codings.specs.declared.services.Service.TheVariants.{NotAllocated, Allocated, Activated}

-- service n is at place n - 1: four places a byte, from the lowest bits up
abbrev pub place : ℕ → ℕ
place n = n - 1

-- the value of the first bit of place i in its byte; the second is worth twice that
unfoldable pub unit : ℕ → ℕ
unit i = 4 ^ (i % 4)

-- the two bits at place i in its byte b, the first worth 1 and the second 2
unfoldable pub pair_of : ℕ → ℕ → ℕ
pair_of b i = b / unit i % 4

-- what two bits say
unfoldable pub said : ℕ → Service
said p = elim (eqb (p % 2) 0) [ true ↦ NotAllocated | false ↦ elim (eqb (p / 2) 0) [ true ↦ Allocated | false ↦ Activated ] ]

-- a service past the end reads as not allocated: there all bits are 0
unfoldable pub read : List ℕ → ℕ → Outcome Service
read l n =
    judge (leb 2 (length l)) (leb 1 n) NotAllocated (said (pair_of (get_or l (place n / 4) 0) (place n)))

-- the two bits that say so: "not allocated" clears the first bit and keeps the second
unfoldable pub says : Service → ℕ → ℕ
says NotAllocated p = p / 2 * 2
says Allocated p = 1
says Activated p = 3

-- byte b with the two bits at place i changed
unfoldable pub changed : ℕ → ℕ → Service → ℕ
changed b i v = b - pair_of b i * unit i + says v (pair_of b i) * unit i

-- past the end is 6
unfoldable pub write : List ℕ → ℕ → Service → Outcome (List ℕ)
write l n v =
    judge (leb 2 (length l)) (leb 1 n && leb n (4 * length l)) l
    (set l (place n / 4) (changed (get_or l (place n / 4) 0) (place n) v))
