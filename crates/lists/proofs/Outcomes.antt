-- Laws of one command more: its outcome comes last, and so does what is told of it.
use Prim.Native.Nat.{ℕ, zero, suc, ◌+◌}
use mathlib.Core.Path.{◌≡◌, refl, sym, ap, ◌∙◌}
use mathlib.Core.List.{List, [], ◌∷◌, ◌++◌, append_assoc, append-nil}
use lib.ListN.{drop}
use Rattle.card.specs.Bytes.{word, part}
use Rattle.card.specs.Play.{Outcome, play, run}
use Rattle.card.specs.declared.Session.{Session}
use Rattle.lists.specs.Answers.{answer, answers, last_image, last_session}
use Rattle.lists.specs.Commands.{rest, listed}
use Rattle.lists.specs.Runs.{outcomes}

-- the outcome of the command after the first k
abbrev pub next : List ℕ → Session → List ℕ → ℕ → Outcome
next l s c k =
    let os = outcomes l s c k in
    play (last_image l os) (last_session s os) (part (rest k c) 2 (word (rest k c) 0)) 258

pub outcomes_more : (l : List ℕ) (s : Session) (c : List ℕ) (k : ℕ) → outcomes l s c (suc k) ≡ outcomes l s c k ++ (next l s c k ∷ [])
unfolding run listed rest last_image last_session
outcomes_more l s c zero = refl
outcomes_more l s c (suc k) =
    let o = play l s (part c 2 (word c 0)) 258 in
    ap (λ (os : List Outcome). o ∷ os) (outcomes_more o.image o.session (drop (2 + word c 0) c) k)

pub answers_more : (os : List Outcome) (o : Outcome) → answers (os ++ (o ∷ [])) ≡ answers os ++ answer o
unfolding answers
answers_more [] o = append-nil (answer o)
answers_more (p ∷ os) o = ap (λ (x : List ℕ). answer p ++ x) (answers_more os o) ∙ sym (append_assoc (answer p) (answers os) (answer o))

pub last_more : (l : List ℕ) (s : Session) (os : List Outcome) (o : Outcome)
    → (last_image l (os ++ (o ∷ [])) ≡ o.image) × (last_session s (os ++ (o ∷ [])) ≡ o.session)
unfolding last_image last_session
last_more l s [] o = (refl, refl)
last_more l s (p ∷ os) o = last_more p.image p.session os o
