-- What was tested before a command is so after it.
use Prim.Native.Nat.{ℕ}
use mathlib.Core.Path.{sym, subst}
use mathlib.Core.List.{List}
use Rattle.acts.specs.Ready.{Ready}
use Rattle.card.specs.Play.{play}
use Rattle.card.specs.declared.Session.{Session}
use Rattle.card.proofs.Stays.{stays_image}
use Rattle.player.specs.Ends.{Ends}
use Rattle.player.specs.declared.Played.{Played}

pub again : {l : List ℕ} {s : Session} (c : List ℕ) (room : ℕ) {r : Played} {image was is : List ℕ} → Ready l s
    → Ends (play l s c room) r image was is
    → Ready image r.session
again {l} {s} c room {r} {image} ready e =
    let sound = stays_image l s c room ready.image ready.session in
    subst (λ (x : List ℕ). Ready x r.session) (sym e.image')
    (subst (λ (t : Session). Ready (play l s c room).image t) (sym e.session) (record { image = sound.image; session = sound.session }))
