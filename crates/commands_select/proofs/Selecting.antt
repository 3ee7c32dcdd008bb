-- Laws of STATUS and GET RESPONSE: the ways out of each.
use Prim.Native.Nat.{ℕ, ◌+◌, ◌≤◌}
use mathlib.Core.Path.{◌≡◌, refl, sym, subst, ◌∙◌}
use mathlib.Core.List.{List, [], ◌++◌}
use mathlib.Core.Bool.{Bool, true, false, ◌||◌, false≢true}
use lib.Dec.{eqb, ltb}
use lib.ListN.{take, replicate}
use borrow.Author.Tests.{eq-eqb, ne_eqb, ltb-false}
use Rattle.card.specs.Bytes.{part}
use Rattle.card.specs.Answers.{Reply, reply, refusal}
use Rattle.card.specs.Sessions.{dropped}
use Rattle.card.specs.Select.{directory_response, tell_status, get_response}
use Rattle.card.specs.declared.Session.{Session}
use Rattle.commands.specs.declared.answers.Reply.{Reply as Told}
use Rattle.card.specs.Answers.{laid}
use Rattle.commands.specs.Gives.{brief, Gives}
use Rattle.card.proofs.Tests.{indeed, otherwise}

-- where the number asked for is not refused, it is no more than what waits
latter : (a b : Bool) → (a || b) ≡ false → b ≡ false
latter true b h = absurd (false≢true (sym h))
latter false b h = h

pub asked : (n c : ℕ) → (eqb n 0 || ltb c n) ≡ false → n ≤ c
asked n c h = ltb-false c n (latter (eqb n 0) (ltb c n) h)

module _ (s : Session) (n : ℕ) (t : Told) where
  -- the ways out of GET RESPONSE
  pub nothing_waits : (room : List ℕ) → s.count ≡ 0 → t ≡ brief (refusal s 0x6f00) → Gives (get_response s n) t room room
  unfolding get_response
  nothing_waits room z q = subst (λ (d : Reply). Gives d t room room) (indeed _ _ _ (eq-eqb _ _ z)) (record { reply = q; room = refl })

  pub asked_wrong : (room : List ℕ) → (s.count ≡ 0 → ⊥) → (eqb n 0 || ltb s.count n) ≡ true → t ≡ brief (reply [] (0x6700 + s.count) s)
      → Gives (get_response s n) t room room
  unfolding get_response
  asked_wrong room z h q =
      subst (λ (d : Reply). Gives d t room room) (indeed _ _ _ h ∙ otherwise _ _ _ (ne_eqb _ _ z)) (record { reply = q; room = refl })

  pub responds : (was is : List ℕ) → (s.count ≡ 0 → ⊥) → (eqb n 0 || ltb s.count n) ≡ false
      → t ≡ brief (reply (take n s.waiting) 0x9000 (dropped s))
      → is ≡ laid was (take n s.waiting)
      → Gives (get_response s n) t was is
  unfolding get_response
  responds was is z h q r =
      subst (λ (d : Reply). Gives d t was is) (otherwise _ _ _ h ∙ otherwise _ _ _ (ne_eqb _ _ z)) (record { reply = q; room = r })

-- STATUS, by the bytes on the current directory, which stand after seven zeros
pub status : (s : Session) (n : ℕ) (told was is : List ℕ) (t : Told) → t ≡ brief (reply (part told 4 n) 0x9000 (dropped s))
    → is ≡ laid was (part told 4 n)
    → (h : List ℕ) → told ≡ replicate 4 0 ++ directory_response h s.directory
    → Gives (tell_status h s n) t was is
unfolding tell_status
status s n told was is t q r h e =
    subst (λ (l : List ℕ). Gives (reply (part l 4 n) 0x9000 (dropped s)) t was is) e (record { reply = q; room = r })
