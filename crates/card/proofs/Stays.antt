-- Images stay images, and a session that fits goes on fitting.
use Prim.Native.Nat.{ℕ}
use mathlib.Core.Path.{◌≡◌, refl, sym, subst}
use mathlib.Core.List.{List, [], ◌∷◌}
use mathlib.Core.Bool.{true}
use native.Mathlib.Omega.{arith}
use lib.ListN.{drop}
use Rattle.card.specs.Bytes.{same}
use Rattle.card.specs.Layout.{head}
use Rattle.card.specs.Shelf.{is_image}
use Rattle.card.specs.Images.{Image}
use Rattle.card.specs.Sessions.{padded, fits, reset, dropped}
use Rattle.card.specs.Answers.{Effect}
use Rattle.card.specs.Play.{opened, done, play, run}
use Rattle.card.specs.Demands.{Sound, StaysImage, Commands, Each, ResetFits, StaysThrough}
use Rattle.card.specs.declared.Session.{Session}
use Rattle.card.proofs.Tests.{apart}
use Rattle.card.proofs.Images.{image, is-image}
use Rattle.card.proofs.Heads.{head_sound}
use Rattle.card.proofs.Fitting.{Fits, fitting, is_fitting, stands_nothing, fits_same, fits_waits}
use Rattle.card.proofs.Walk.{effect_of, by_play}
use Rattle.card.proofs.Replies.{Keeps}
use Rattle.card.proofs.Effects.{keeps}
use Rattle.card.proofs.After.{here_in, made_ready, after_image, head_after}

module _ (l : List ℕ) (s : Session) (e : is_image l ≡ true) (f : fits (head l) s ≡ true) where
  sound : Image l
  sound = image l e

  fit : Fits (head l) s
  fit = fitting (head l) s f

  dropped_fit : fits (head l) (dropped s) ≡ true
  dropped_fit = is_fitting (head l) _ (fits_waits (head l) s fit [] (omega arith))

  after_sound : (x : Effect) → Keeps (head l) (opened l s.current) x → Sound (done l s.current x)
  after_sound x k =
      record {
        image = is-image _ (after_image l sound s.current (here_in l sound s fit) x.head x.contents k.head k.contents);
        session =
            subst (λ h. fits h x.given.session ≡ true)
            (sym (head_after l sound s.current (here_in l sound s fit) x.head x.contents k.head k.contents))
            (is_fitting x.head x.given.session (fits_same k.head.same x.given.session k.session));
        not1 = λ z. omega arith;
        not2 = λ z. omega arith;
      }

pub stays_image : StaysImage
stays_image l s c room e f =
    by_play Sound l s c room (λ n. apart e n) (λ n. apart f n)
    (record { image = e; session = f; not1 = λ z. omega arith; not2 = λ z. omega arith })
    (record { image = e; session = f; not1 = λ z. omega arith; not2 = λ z. omega arith })
    (record { image = e; session = f; not1 = λ z. omega arith; not2 = λ z. omega arith })
    (λ w. record { image = e; session = dropped_fit l s e f; not1 = λ z. omega arith; not2 = λ z. omega arith })
    (λ i g k.
    after_sound l s e f (effect_of l s c)
    (keeps (head l) _ s (made_ready l (sound l s e f) s (fit l s e f)) _ _ _ _ (drop 5 c) k.form k.bytes))

-- Runs.
pub reset_fits : ResetFits
unfolding padded same
reset_fits l e =
    is_fitting (head l) reset
    (record { directory = (head_sound l (image l e)).rooted; place = stands_nothing (head l) 0; rest = refl })

through : (l : List ℕ) (s : Session) (cs : Commands) → is_image l ≡ true → fits (head l) s ≡ true → Each Sound (run l s cs)
unfolding run Each
through l s [] e f = tt
through l s (c ∷ cs) e f =
    let g = stays_image l s c.0 c.1 e f in
    (g, through (play l s c.0 c.1).image (play l s c.0 c.1).session cs g.image g.session)

pub stays_through : StaysThrough
stays_through l cs e = through l reset cs e (reset_fits l e)
