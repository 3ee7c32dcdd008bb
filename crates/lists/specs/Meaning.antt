-- What follows of lists and of the promise. Each statement is a type with a name, and its proof in proofs/ has that name with a small
-- letter.
use Rattle.std.specs.Prelude.{ℕ, ◌/◌, ◌%◌, ◌<◌, ◌≤◌, ◌≡◌, List, [], ◌∷◌, ◌++◌, map, true, false, length}
use Rattle.card.specs.declared.Session.{Session}
use Rattle.lists.specs.Commands.{listed}
use Rattle.lists.specs.Runs.{stops, Runs}
use Rattle.lists.specs.declared.Ran.{Ran}

-- commands as a list, each after its count
unfoldable pub spelled : List (List ℕ) → List ℕ
spelled [] = []
spelled (c ∷ cs) = length c / 256 ∷ length c % 256 ∷ (c ++ spelled cs)

-- Commands that were put in a list are read from it, whatever stands after them.
abbrev pub ReadBack : Type 0
ReadBack = (cs : List (List ℕ)) (more : List ℕ) → listed (length cs) (spelled cs ++ more) ≡ map (λ c. (c, 258)) cs

-- No more than n commands are played. They did not stop at any of these, and where fewer than n are played they stop there.
abbrev pub EndsEarly : Type 0
EndsEarly =
    (l : List ℕ) (s : Session) (commands : List ℕ) (n : ℕ) (was : List ℕ) (r : Ran) (image is : List ℕ)
    → Runs l s commands n was r image is
    → (r.played ≤ n)
    × (((k : ℕ) → k < r.played → stops l s commands (length was) k ≡ false)
    × (r.played < n → stops l s commands (length was) r.played ≡ true))

-- Any two outcomes that the promise admits are one: how many were played, what was written, the session, and each byte of the image and
-- the answers.
abbrev pub OneOutcome : Type 0
OneOutcome =
    (l : List ℕ) (s : Session) (commands : List ℕ) (n : ℕ) (was : List ℕ) (r r' : Ran) (image image' is is' : List ℕ)
    → Runs l s commands n was r image is
    → Runs l s commands n was r' image' is'
    → (r ≡ r') × ((image ≡ image') × (is ≡ is'))
