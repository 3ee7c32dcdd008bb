-- Laws of a command's end: the response in the room, and the ways out of `perform` and `play`.
use Prim.Native.Nat.{ℕ, ◌+◌, ◌-◌, ◌/◌, ◌%◌, ◌≤◌}
use mathlib.Core.Path.{◌≡◌, refl, ap, ◌∙◌}
use mathlib.Core.List.{List, [], ◌++◌}
use native.Mathlib.Omega.{arith}
use lib.ListN.{length, take, drop, length-append, length-drop}
use lib.Seq.{take_all}
use Rattle.card.specs.Answers as card
use Rattle.card.specs.Answers.{laid}
use Rattle.card.specs.Play.{act, told, done, afterwards, declined}
use Rattle.card.specs.declared.Answer.{Answer}
use Rattle.card.specs.declared.Instruction.{Instruction}
use Rattle.card.specs.declared.Session.{Session}
use Rattle.commands.specs.declared.answers.Reply.{Reply}
use Rattle.commands.specs.Gives.{brief}
use Rattle.acts.specs.Leaves.{Leaves}
use Rattle.acting.specs.Right.{Right}
use Rattle.player.specs.declared.Played.{Played}
use Rattle.player.specs.Ends.{Tells, Ends}
use Rattle.player.proofs.Rooms.{closed, within, behind, long}

-- what the code counts
pub count_of : (d : card.Reply) (t : Reply) → t ≡ brief d → t.count ≡ length d.bytes
unfolding brief
count_of d t e = ap (λ (t : Reply). t.count) e

-- the data in the room and the word after them are the response
pub ended : (d : card.Reply) (t : Reply) (r : Played) (l image was is fin : List ℕ) → t ≡ brief d → is ≡ laid was d.bytes
    → Tells t r is fin → length d.bytes + 2 ≤ length was → image ≡ l → Ends (told l d) r image was fin
unfolding brief
ended d t r l image was is fin e q tells h i =
    let p = tells.played in
    record {
      answer = simp p;
      count = simp (p, e, length-append);
      session = simp (p, e);
      image' = i;
      room = tells.room ∙ (simp (q, e)) ∙ closed d.bytes was (d.word / 256) (d.word % 256) h;
    }

-- a word alone
pub says : (s' : Session) (w : ℕ) {t : Reply} {r : Played} (l : List ℕ) {room fin : List ℕ} → t ≡ brief (card.reply [] w s')
    → Tells t r room fin → 258 ≤ length room → Ends (told l (card.reply [] w s')) r l room fin
says s' w l e tells h = ended (card.reply [] w s') _ _ l l _ _ _ e refl tells (omega arith) refl

pub room_for_word : (s' : Session) (w : ℕ) {t : Reply} → t ≡ brief (card.reply [] w s') → (room : ℕ) → 258 ≤ room → t.count + 2 ≤ room
room_for_word s' w {t} e room h = omega (arith, count_of (card.reply [] w s') t e)

-- nothing was done
pub declines : {r : Played} (a : Answer) (l room : List ℕ) (s : Session) → r ≡ record { answer = a; count = 0; session = s }
    → Ends (declined a l s) r l room room
declines a l room s e = record { answer = simp e; count = simp e; session = simp e; image' = refl; room = refl }

-- a command was carried out in the first 256 bytes of the room
module _ (was : List ℕ) {e : card.Effect} {l : List ℕ} {s : Session} {t : Reply} {image new : List ℕ}
    (v : Leaves e l s t image (take 256 was) new) (same : length new ≡ length (take 256 was)) (h : 258 ≤ length was) where
  few : length e.given.bytes ≤ 256
  few = within e.given.bytes was new 256 (omega arith) v.room same

  lies : new ++ drop 256 was ≡ laid was e.given.bytes
  lies = behind e.given.bytes was new 256 (omega arith) v.room same

  pub roomy : t.count + 2 ≤ length (new ++ drop 256 was)
  roomy = rw lies (omega (arith, count_of e.given t v.reply, few, long was e.given.bytes))

  pub carried : (r : Played) (fin : List ℕ) → Tells t r (new ++ drop 256 was) fin → Ends (done l s.current e) r image was fin
  carried r fin tells =
      ended e.given t r (afterwards l s.current e) image was (new ++ drop 256 was) fin v.reply lies tells (omega (arith, few)) v.image'

-- a command's parameters and data, as they stand in its bytes
pub tail : (c : List ℕ) → take (length c - 5) (drop 5 c) ≡ drop 5 c
tail c = take_all (length c - 5) (drop 5 c) (omega (arith, length-drop 5 c))

pub rightly : {i : Instruction} {p p' q q' n n' : ℕ} {d d' : List ℕ} → p ≡ p' → q ≡ q' → n ≡ n' → d ≡ d' → Right i p' q' n' d'
    → Right i p q n d
rightly ep eq en ed r = rw (ep, eq, en, ed) r

pub spelled : (i : Instruction) (h b : List ℕ) (s : Session) {p p' q q' n n' : ℕ} {d d' : List ℕ} → p ≡ p' → q ≡ q' → n ≡ n' → d ≡ d'
    → act i h b s p q n d ≡ act i h b s p' q' n' d'
spelled i h b s ep eq en ed = rw (ep, eq, en, ed)
