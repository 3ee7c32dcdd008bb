-- `shelf_check::examine` meets its contract: a law for each way out.
use mathlib.Core.Path.{refl, sym, ◌∙◌}
use Rattle.shelf_check.proofs.Examining.{by_tests}
use Rattle.shelf_check.proofs.examine.Goals as goal

pub returns-in_default : goal.returns-in_default
returns-in_default c = by_tests _ _ (sym c.in_default.ensures) refl

pub returns-then-not-sound : goal.returns-then-not-sound
returns-then-not-sound c = by_tests _ _ (sym (rw c.in-Some.ensures at c.sound.ensures) ∙ c.if-not-sound.true) refl

pub returns-then-not-fit : goal.returns-then-not-fit
returns-then-not-fit c = by_tests _ _
    (sym (rw c.in-Some.ensures at c.sound.ensures) ∙ c.if-not-sound.false)
    (sym (rw c.in-Some.ensures at c.fits-fit.ensures) ∙ c.if-not-fit.true)

pub returns : goal.returns
returns c = by_tests _ _
    (sym (rw c.in-Some.ensures at c.sound.ensures) ∙ c.if-not-sound.false)
    (sym (rw c.in-Some.ensures at c.fits-fit.ensures) ∙ c.if-not-fit.false)
