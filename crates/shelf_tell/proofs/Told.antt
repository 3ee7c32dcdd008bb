-- Laws of what is told of a directory and a file.
use Prim.Native.Nat.{ℕ, ◌+◌, ◌≤◌, ◌<◌, ◌/◌, ◌%◌}
use mathlib.Core.Path.{◌≡◌, ap, ◌∙◌}
use mathlib.Core.List.{List, [], ◌∷◌, ◌++◌}
use mathlib.Core.Bool.{Bool, true, false}
use native.Mathlib.Omega.{arith}
use mir.Val.{bool_byte}
use lib.ListN.{length, replicate}
use Rattle.std.specs.Int.{w16, to_be_bytes}
use Rattle.card.specs.Bytes.{byte, bit, how_many}
use Rattle.card.specs.Layout.{index, code_at, code_entry, code, directory, file, disabled}
use Rattle.card.specs.Select.{b8, code_status, unblock_status, child, children, member, members, directory_type, directory_response}
use Rattle.card.proofs.Frames.{placed}
use Rattle.shelf.specs.Reads.{Head, Counters}
use Rattle.card.specs.declared.Index.{Index}
use Rattle.card.specs.declared.Code.{Code}
use Rattle.card.specs.declared.Directory.{Directory}

-- a test as a number
pub record Tested (t : Bool) (b : ℕ) : Type 0 where
  pub is : b ≡ bit t
  pub few : b ≤ 1

pub tested : (t : Bool) (b : ℕ) → b ≡ bool_byte t → Tested t b
tested true b e = record { is = e; few = omega arith }
tested false b e = record { is = e; few = omega arith }

-- a test of an entry that was read, as one of the entry of its number
pub child_at : (h : List ℕ) (d c b : ℕ) (e : Directory) (r : Bool) → e ≡ directory h c → r ≡ child d c e → b ≡ bit r → b ≡ bit (child d c (directory h c))
child_at h d c b e r is k m = m ∙ ap bit k ∙ ap (λ (x : Directory). bit (child d c x)) is

-- the two bytes of a word, high byte first
pub record Bytes (w : ℕ) (b : List ℕ) : Type 0 where
  pub high : byte b 0 ≡ w / 256
  pub low : byte b 1 ≡ w % 256

pub word_bytes : (w : ℕ) → w < 65536 → (b : List ℕ) → b ≡ to_be_bytes w16 w → Bytes w b
word_bytes w lt b e = rw e (record { high = omega arith; low = omega arith })

module _ (h : List ℕ) (i : Index) (is : i ≡ index h) where
  pub children_are : (d r : ℕ) → r ≡ how_many i.directories (λ c. child d c (directory h c)) → r ≡ children h d
  unfolding children
  children_are d r e = e ∙ rw is

  pub members_are : (d r : ℕ) → r ≡ how_many i.files (λ f. member d (file h f)) → r ≡ members h d
  unfolding members
  members_are d r e = e ∙ rw is

-- What the head of an image says of the entries that were read.
module _ (h : List ℕ) (i : Index) (sound : Head h i) where
  -- the codes' entries are all there, and their counters are small
  pub codes_inside : 42 ≤ length h
  codes_inside = let p = placed h in let w = sound.sound.whole in let n = sound.sound.codes in omega arith

  pub counters : (c : ℕ) (k : Code) → k ≡ code_entry h (code_at c) → c < 2 → Counters k
  unfolding code
  counters c k e lt = let r = sound.sound.code c lt in rw e (record { attempts = r.attempts; unblocks = r.unblocks })

-- Seven zeros and the 22 bytes on a directory, from its entry, the two codes and the two counts.
pub directory_told : (h : List ℕ) (d : ℕ) (e : Directory) (k k' : Code) (m m' n n' t x y z a u a' u' : ℕ)
    → e ≡ directory h d
    → k ≡ code_entry h (code_at 0)
    → k' ≡ code_entry h (code_at 1)
    → m ≡ e.memory / 256
    → m' ≡ e.memory % 256
    → n ≡ e.identifier / 256
    → n' ≡ e.identifier % 256
    → t ≡ directory_type d
    → x ≡ b8 (disabled k) + e.characteristics
    → y ≡ children h d
    → z ≡ members h d
    → a ≡ code_status k
    → u ≡ unblock_status k
    → a' ≡ code_status k'
    → u' ≡ unblock_status k'
    → (replicate 4 0 ++ (0 ∷ 0 ∷ m ∷ m' ∷ n ∷ n' ∷ t ∷ 0 ∷ 0 ∷ 0 ∷ 0 ∷ 0 ∷ 9 ∷ x ∷ y ∷ z ∷ e.codes ∷ 0 ∷ a ∷ u ∷ a' ∷ u' ∷ []))
    ≡ replicate 4 0 ++ directory_response h d
unfolding directory_response code
directory_told h d e k k' m m' n n' t x y z a u a' u' E K K' M M' N N' T X Y Z A U A' U' =
    rw (M, M', N, N', T, X, Y, Z, A, U, A', U', E, K, K')
