-- What is found before the room and the command are looked at: nothing in the way, or the host's answer.
use Rattle.std.specs.Prelude.{ℕ, List, Bool, true, false, Result, Ok, Err}
use Rattle.card.specs.Layout.{head}
use Rattle.card.specs.Sessions.{fits}
use Rattle.card.specs.Shelf.{is_image}
use Rattle.card.specs.declared.Answer.{Answer}
use Rattle.card.specs.declared.Answer.TheVariants.{NotAnImage, DoesNotFit}
use Rattle.card.specs.declared.Session.{Session}

-- by the two tests
abbrev pub answer_of : Bool → Bool → Result (Unit {0}) Answer
answer_of sound fit = elim sound [ false ↦ Err NotAnImage | true ↦ elim fit [ false ↦ Err DoesNotFit | true ↦ Ok tt ] ]

unfoldable pub examined : List ℕ → Session → Result (Unit {0}) Answer
examined l s = answer_of (is_image l) (fits (head l) s)
