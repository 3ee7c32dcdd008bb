-- Which bytes of a list an index, a code, a directory and a file are read from.
use Prim.Native.Nat.{ℕ, ◌+◌, ◌*◌, ◌<◌}
use mathlib.Core.Path.{◌≡◌, refl, ap, ◌∙◌}
use mathlib.Core.List.{List}
use native.Mathlib.Omega.{arith}
use Rattle.card.specs.Bytes.{byte, word}
use Rattle.card.specs.Layout.{index, index_with, code_entry, code, code_at, directory_entry, directory, directory_at, file_entry, file, file_at, status_at, top_at}
use Rattle.card.specs.declared.Index.{Index}
use Rattle.card.specs.declared.Entry.{Entry}
use Rattle.card.proofs.Parts.{Agree, narrow}

pub word_by : {l l' : List ℕ} (at : ℕ) → Agree at (at + 2) l l' → word l at ≡ word l' at
unfolding word
word_by at g = λ i. g.at at (omega arith) (omega arith) i * 256 + g.at (at + 1) (omega arith) (omega arith) i

-- The index is read from the three counts.
pub record Counted (l l' : List ℕ) : Type 0 where
  pub codes : Agree 0 2 l l'
  pub directories : Agree (2 + 20 * (index l).codes) (4 + 20 * (index l).codes) l l'
  pub files :
      Agree (4 + 20 * (index l).codes + 8 * (index l).directories) (6 + 20 * (index l).codes + 8 * (index l).directories) l l'

pub index_by : (l l' : List ℕ) → Counted l l' → index l ≡ index l'
unfolding index
index_by l l' g = λ i. index_with (p i) (q i) (r i)
  where
    p : word l 0 ≡ word l' 0
    p = word_by 0 g.codes

    q : word l (2 + 20 * word l 0) ≡ word l' (2 + 20 * word l' 0)
    q = word_by _ (narrow g.directories (omega arith) (omega arith)) ∙ ap (λ c. word l' (2 + 20 * c)) p

    r : word l (4 + 20 * word l 0 + 8 * word l (2 + 20 * word l 0)) ≡ word l' (4 + 20 * word l' 0 + 8 * word l' (2 + 20 * word l' 0))
    r =
        word_by _ (narrow g.files (omega arith) (omega arith))
        ∙ (λ i. word l' (4 + 20 * p i + 8 * q i))

-- Codes, directories and files are read from the bytes of their entries.
pub code_entry_by : (l l' : List ℕ) (at at' : ℕ) → ((k : ℕ) → k < 4 → byte l (at + k) ≡ byte l' (at' + k)) → code_entry l at ≡ code_entry l' at'
unfolding code_entry
code_entry_by l l' at at' g =
    let z : at ≡ at + 0 = omega arith in
    let z' : at' + 0 ≡ at' = omega arith in
    λ i.
    record {
      flags = (ap (byte l) z ∙ g 0 (omega arith) ∙ ap (byte l') z') i;
      attempts = g 1 (omega arith) i;
      unblocks = g 2 (omega arith) i;
      spare = g 3 (omega arith) i;
    }

pub code_by : {l l' : List ℕ} (c : ℕ) → Agree (code_at c) (code_at c + 4) l l' → code l c ≡ code l' c
unfolding code
code_by {l} {l'} c g = code_entry_by l l' (code_at c) (code_at c) (λ k h. g.at (code_at c + k) (omega arith) (omega arith))

pub directory_entry_by : {l l' : List ℕ} (at : ℕ) → Agree at (at + 8) l l' → directory_entry l at ≡ directory_entry l' at
unfolding directory_entry
directory_entry_by at g =
    λ i.
    record {
      identifier = word_by at (narrow g (omega arith) (omega arith)) i;
      parent = g.at (at + 2) (omega arith) (omega arith) i;
      characteristics = g.at (at + 3) (omega arith) (omega arith) i;
      memory = word_by (at + 4) (narrow g (omega arith) (omega arith)) i;
      codes = g.at (at + 6) (omega arith) (omega arith) i;
      spare = g.at (at + 7) (omega arith) (omega arith) i;
    }

pub directory_by : (l l' : List ℕ) (d : ℕ) → index l ≡ index l' → Agree (directory_at (index l) d) (directory_at (index l) d + 8) l l'
    → directory l d ≡ directory l' d
unfolding directory
directory_by l l' d e g = directory_entry_by (directory_at (index l) d) g ∙ ap (λ (x : Index). directory_entry l' (directory_at x d)) e

-- a file's entry with another status and another top
abbrev pub marked : Entry → ℕ → ℕ → Entry
marked e status top =
    record {
      identifier = e.identifier;
      home = e.home;
      structure = e.structure;
      width = e.width;
      increase = e.increase;
      access1 = e.access1;
      access2 = e.access2;
      access3 = e.access3;
      status = status;
      size = e.size;
      top = top;
      spare = e.spare;
    }

pub marked_by : {l l' : List ℕ} (at status top : ℕ) → Agree at (at + 9) l l' → Agree (at + 10) (at + 12) l l' → Agree (at + 13) (at + 14) l l'
    → marked (file_entry l at) status top ≡ marked (file_entry l' at) status top
unfolding file_entry
marked_by at status top g h j =
    λ i.
    record {
      identifier = word_by at (narrow g (omega arith) (omega arith)) i;
      home = g.at (at + 2) (omega arith) (omega arith) i;
      structure = g.at (at + 3) (omega arith) (omega arith) i;
      width = g.at (at + 4) (omega arith) (omega arith) i;
      increase = g.at (at + 5) (omega arith) (omega arith) i;
      access1 = g.at (at + 6) (omega arith) (omega arith) i;
      access2 = g.at (at + 7) (omega arith) (omega arith) i;
      access3 = g.at (at + 8) (omega arith) (omega arith) i;
      status = status;
      size = word_by (at + 10) (narrow h (omega arith) (omega arith)) i;
      top = top;
      spare = j.at (at + 13) (omega arith) (omega arith) i;
    }

pub file_by : (l l' : List ℕ) (f : ℕ) → index l ≡ index l' → Agree (file_at (index l) f) (file_at (index l) f + 14) l l' → file l f ≡ file l' f
unfolding file file_entry
file_by l l' f e g =
    let at = file_at (index l) f in
    marked_by at _ _ (narrow g (omega arith) (omega arith)) (narrow g (omega arith) (omega arith)) (narrow g (omega arith) (omega arith))
    ∙ (λ i. marked (file_entry l' at) (g.at (at + 9) (omega arith) (omega arith) i) (g.at (at + 12) (omega arith) (omega arith) i))
    ∙ ap (λ (x : Index). file_entry l' (file_at x f)) e

-- where a file's status and top stand
pub status_byte : (l : List ℕ) (f : ℕ) → (file l f).status ≡ byte l (status_at (index l) f)
unfolding file file_entry
status_byte l f = refl

pub top_byte : (l : List ℕ) (f : ℕ) → (file l f).top ≡ byte l (top_at (index l) f)
unfolding file file_entry
top_byte l f = refl
