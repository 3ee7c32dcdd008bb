-- Laws of a list of commands, read from a place on.
use Prim.Native.Nat.{ℕ, zero, suc, ◌+◌, ◌-◌, ◌<◌}
use mathlib.Core.Path.{◌≡◌, refl, sym}
use mathlib.Core.List.{List}
use mathlib.Core.Bool.{false}
use native.Mathlib.Nat.{add-zero, zero-add}
use native.Mathlib.Omega.{arith}
use lib.Dec.{leb}
use lib.ListN.{length, drop, length-drop}
use lib.Seq.{get_or-drop}
use borrow.Author.Tests.{lt-leb}
use Rattle.card.specs.Bytes.{word}
use Rattle.lists.specs.Commands.{whole, rest}

pub word_drop : (l : List ℕ) (at : ℕ) → word (drop at l) 0 ≡ word l at
unfolding word
word_drop l at = simp (get_or-drop, add-zero, zero-add)

module _ (l : List ℕ) (at : ℕ) where
  -- a count that is not there
  pub cut : length l - at < 2 → false ≡ whole (drop at l)
  unfolding whole
  cut h = sym (lt-leb (2 + word (drop at l) 0) (length (drop at l)) (omega (arith, length-drop at l)))

  -- a count that is there
  pub counted : (w v : ℕ) → w ≡ v → v ≡ word l at → leb (2 + w) (length l - at) ≡ whole (drop at l)
  unfolding whole
  counted w v e f = simp (e, f, word_drop, length-drop)

-- what stands after one command more
pub rest_more : (k : ℕ) (l : List ℕ) → rest (suc k) l ≡ drop (2 + word (rest k l) 0) (rest k l)
unfolding rest
rest_more zero l = refl
rest_more (suc k) l = rest_more k (drop (2 + word l 0) l)
