-- What stands in a file that may be neither read nor increased does not show.
use Rattle.std.specs.Prelude.{ℕ, Option, Some, None}
use Prim.Native.Nat.{ℕ}
use mathlib.Core.Path.{◌≡◌, refl, sym, ap, subst}
use mathlib.Core.List.{List, [], ◌∷◌}
use mathlib.Core.Bool.{Bool, true, false}
use mathlib.Core.Logic.{◌⊎◌, inl, inr}
use lib.Dec.{eqb, ltb}
use lib.ListN.{length, drop}
use borrow.Author.Tests.{eqb-true}
use Rattle.card.specs.Bytes.{byte}
use Rattle.card.specs.Layout.{file, head}
use Rattle.card.specs.Shelf.{is_image}
use Rattle.card.specs.Images.{Image}
use Rattle.card.specs.Sessions.{fits, reset}
use Rattle.card.specs.Access.{rights}
use Rattle.card.specs.Answers.{Reply, response, Effect, first}
use Rattle.card.specs.Forms.{instruction_of, formed, sent}
use Rattle.card.specs.Play.{act, opened, headed, filled, done, perform_as, perform, play, run}
use Rattle.card.specs.Demands.{Apart, Shut, ShutThrough, Indistinct, Throughout, HiddenStep, HiddenRun, Hidden}
use Rattle.card.specs.declared.Entry.{Entry}
use Rattle.card.specs.declared.Session.{Session}
use Rattle.card.specs.declared.Instruction.{Instruction}
use Rattle.card.proofs.Tests.{decided}
use Rattle.card.proofs.Images.{image}
use Rattle.card.proofs.Heads.{file_head}
use Rattle.card.proofs.Fitting.{Fits, fitting}
use Rattle.card.proofs.Replies.{Ready}
use Rattle.card.proofs.Effects.{keeps}
use Rattle.card.proofs.After.{here_in, made_ready}
use Rattle.card.proofs.Refusals.{choices}
use Rattle.card.proofs.Blind.{Alike, Sealed, blind}
use Rattle.card.proofs.Likeness.{alike_after, image_agree, front, same_image, same_head, same_contents}

-- The command itself.
module _ (X : ℕ → Bool) (l l' : List ℕ) (s : Session) (a : Apart X l l') (shut : Shut X l s) (m : Image l) (g : Fits (head l) s) where
  m' : Image l'
  m' = image_agree l l' (front X l l' a) a.long m

  g' : Fits (head l') s
  g' = rw (← same_head X l l' a) g

  -- the current file is closed, or its bytes are the same
  closed : (f : ℕ) → s.current ≡ Some f → X f ≡ true → Sealed (rights (head l) s) (file (head l) f)
  closed f c x =
      let i = here_in l m s g f c in
      subst (λ (e : Entry). Sealed (rights (head l) s) e) (sym (file_head l f i))
      (record { unread = (shut f i x).unread; unsought = (shut f i x).unread; uncounted = (shut f i x).uncounted })

  module _ (i : Instruction) (p q n : ℕ) (d : List ℕ) (formal : first (formed i p q n) ≡ 0) (long : length d ≡ sent i n) where
    e : Effect
    e = act i (head l) (opened l s.current) s p q n d

    e' : Effect
    e' = act i (head l) (opened l' s.current) s p q n d

    case : ((f : ℕ) → s.current ≡ Some f → X f ≡ true) ⊎ (opened l s.current ≡ opened l' s.current)
    case = go s.current refl
      where
        go : (c : Option ℕ) → s.current ≡ c → ((f : ℕ) → s.current ≡ Some f → X f ≡ true) ⊎ (opened l s.current ≡ opened l' s.current)
        go None c = inr (rw c refl)
        go (Some f) c = pick (decided (X f))
          where
            pick : (X f ≡ true) ⊎ (X f ≡ false) → ((f : ℕ) → s.current ≡ Some f → X f ≡ true) ⊎ (opened l s.current ≡ opened l' s.current)
            pick (inl x) = inl (λ k w. let y : f ≡ k = cc in rw (← y) x)
            pick (inr x) = inr (rw c (same_contents X l l' a f (here_in l m s g f c) x m m'))

    told_alike : Indistinct X (done l s.current e) (done l' s.current e')
    unfolding e e'
    told_alike =
        record {
          host = refl;
          response = ap response blindly.given;
          session = ap (λ (r : Reply). r.session) blindly.given;
          image =
              subst (λ x. Apart X (headed (filled l s.current e.contents) e.head) (headed (filled l' s.current e'.contents) x))
              blindly.head
              (alike_after X l l' a m m' s.current (here_in l m s g) e.head e.contents e'.contents
              (keeps (head l) _ s (made_ready l m s g) i p q n d formal long).head
              (keeps (head l) _ s (made_ready l m s g) i p q n d formal long).contents
              (keeps (head l) _ s ready' i p q n d formal long).contents
              (λ f c. differ f c case));
        }
      where
        ready' : Ready (head l) (opened l' s.current) s
        ready' = rw (same_head X l l' a) (made_ready l' m' s g')

        blindly : Alike e e'
        blindly = go case
          where
            go : ((f : ℕ) → s.current ≡ Some f → X f ≡ true) ⊎ (opened l s.current ≡ opened l' s.current) → Alike e e'
            go (inl x) = blind (head l) _ _ s (λ f c. closed f c (x f c)) i p q n d
            go (inr y) =
                record {
                  given = ap (λ b. (act i (head l) b s p q n d).given) y;
                  head = ap (λ b. (act i (head l) b s p q n d).head) y;
                }

        differ : (f : ℕ) → s.current ≡ Some f
            → ((f : ℕ) → s.current ≡ Some f → X f ≡ true) ⊎ (opened l s.current ≡ opened l' s.current)
            → (X f ≡ true) ⊎ (e.contents ≡ e'.contents)
        differ f c (inl x) = inl (x f c)
        differ f c (inr y) = inr (ap (λ b. (act i (head l) b s p q n d).contents) y)

-- what the host answers itself, and what a command is refused before its bytes are counted, is the same on both
plain : (X : ℕ → Bool) (l l' : List ℕ) → Apart X l l' → (host : ℕ) (response : List ℕ) (s : Session)
    → Indistinct X (record { host = host; response = response; image = l; session = s })
    (record { host = host; response = response; image = l'; session = s })
plain X l l' a host response s = record { host = refl; response = refl; session = refl; image = a }

performed : (X : ℕ → Bool) (l l' : List ℕ) (s : Session) (a : Apart X l l') (shut : Shut X l s) (m : Image l) (g : Fits (head l) s)
    (i : Instruction) (c : List ℕ)
    → Indistinct X (perform_as i l s c) (perform_as i l' s c)
unfolding perform_as e e'
performed X l l' s a shut m g i c =
    let w = first (formed i (byte c 2) (byte c 3) (byte c 4)) in
    choices (Indistinct X) (eqb (byte c 0) 0xa0) _ _ _ _ _ refl
    (λ t.
    choices (Indistinct X) (eqb w 0) _ _ _ _ _ refl
    (λ u.
    choices (Indistinct X) (eqb (length (drop 5 c)) (sent i (byte c 4))) _ _ _ _ _ refl
    (λ v.
    rw (← same_head X l l' a)
    (told_alike X l l' s a shut m g i (byte c 2) (byte c 3) (byte c 4) (drop 5 c) (eqb-true _ _ u) (eqb-true _ _ v)))
    (λ v. plain X l l' a _ _ s))
    (λ u. plain X l l' a _ _ _))
    (λ t. plain X l l' a _ _ s)

pub hidden_step : HiddenStep
unfolding play perform
hidden_step X l l' s c room a shut =
    choices (Indistinct X) (is_image l) (is_image l') _ _ _ _ (same_image X l l' a)
    (λ m.
    choices (Indistinct X) (fits (head l) s) (fits (head l') s) _ _ _ _ (ap (λ h. fits h s) (same_head X l l' a))
    (λ g.
    choices (Indistinct X) (ltb room 258) _ _ _ _ _ refl (λ u. plain X l l' a _ _ s)
    (λ u.
    choices (Indistinct X) (ltb (length c) 5) _ _ _ _ _ refl (λ v. plain X l l' a _ _ s)
    (λ v. performed X l l' s a shut (image l m) (fitting (head l) s g) (instruction_of (byte c 1)) c)))
    (λ g. plain X l l' a _ _ s))
    (λ m. plain X l l' a _ _ s)

-- Runs. The second goes on from its own session, which is the same.
pub hidden_run : HiddenRun
unfolding run ShutThrough Throughout
hidden_run X l l' s [] a shut = tt
hidden_run X l l' s (c ∷ cs) a shut =
    let o = play l s c.0 c.1 in
    let o' = play l' s c.0 c.1 in
    let h = hidden_step X l l' s c.0 c.1 a shut.0 in (
      h,
      subst (λ (t : Session). Throughout X (run o.image o.session cs) (run o'.image t cs)) h.session
          (hidden_run X o.image o'.image o.session cs h.image shut.1),
    )

pub hidden : Hidden
hidden X l l' cs a shut = hidden_run X l l' reset cs a shut
