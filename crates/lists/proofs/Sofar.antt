-- What is known before each turn of the loop in `run`, and how the loop ends.
use Prim.Native.Nat.{ℕ, ◌+◌, ◌-◌, ◌<◌, ◌≤◌}
use mathlib.Core.Path.{◌≡◌, refl, sym, ◌∙◌}
use mathlib.Core.List.{List}
use mathlib.Core.Bool.{Bool, true, false, ◌&&◌, not}
use native.Mathlib.Omega.{arith}
use lib.Dec.{leb}
use lib.ListN.{length, drop, length-drop}
use borrow.Author.Tests.{leb-true, not-false}
use Rattle.acts.specs.Ready.{Ready}
use Rattle.card.specs.Bytes.{word, find, first_from}
use Rattle.card.specs.Play.{run}
use Rattle.card.specs.declared.Session.{Session}
use Rattle.card.proofs.Tests.{both}
use Rattle.shelf.proofs.Loops.{search_none, search_found, search-end}
use Rattle.lists.specs.Answers.{answers, last_image, last_session}
use Rattle.lists.specs.Commands.{whole, rest, listed}
use Rattle.lists.specs.Runs.{outcomes, stops, After, Runs}
use Rattle.lists.specs.declared.Ran.{Ran}
use Rattle.lists.proofs.Places.{word_drop}

-- none of the commands that were played stops, the next stands at this place, and what the outcomes so far leave is there
pub record Sofar (l : List ℕ) (s : Session) (commands : List ℕ) (n : ℕ) (was : List ℕ) (known : Bool) (image is : List ℕ) (r : Ran) (at : ℕ) : Type 0 where
  pub few : r.played ≤ n
  pub search : find n (stops l s commands (length was)) ≡ first_from (stops l s commands (length was)) (n - r.played) r.played
  pub place : at ≤ length commands
  pub here : drop at commands ≡ rest r.played commands
  pub after : After (outcomes l s commands r.played) l s was r image is
  pub room : r.written ≤ length was
  pub same : length image ≡ length l
  pub same' : length is ≡ length was
  pub ready : known ≡ true → Ready image r.session

-- before the first command
pub start : (l : List ℕ) (s : Session) (commands : List ℕ) (n : ℕ) (was : List ℕ) (known : Bool) → (known ≡ true → Ready l s)
    → Sofar l s commands n was known l was (record { played = 0; written = 0; session = s }) 0
unfolding run listed rest answers last_image last_session
start l s commands n was known ready =
    record {
      few = omega arith;
      search = search_none (stops l s commands (length was)) n;
      place = omega arith;
      here = refl;
      after = record { session = refl; image' = refl; written = refl; answers' = refl };
      room = omega arith;
      same = refl;
      same' = refl;
      ready = ready;
    }

-- what the test of a turn says where it goes on
pub goes : (commands : List ℕ) (at until room : ℕ) (b : Bool) → b ≡ whole (drop at commands) → at ≤ length commands → not (b && leb until room) ≡ false
    → (at + 2 + word commands at ≤ length commands) × (until ≤ room)
unfolding whole
goes commands at until room b e h t =
    let w = both b (leb until room) (not-false _ t) in
    let q = leb-true (2 + word (drop at commands) 0) (length (drop at commands)) (sym e ∙ w.0) in
    (omega (arith, q, length-drop at commands, word_drop commands at), leb-true until room w.1)

module _ {l : List ℕ} {s : Session} {commands : List ℕ} {n : ℕ} {was : List ℕ} {known : Bool} {image is : List ℕ} {r : Ran} {at : ℕ}
    (f : Sofar l s commands n was known image is r at) where
  -- the test of a turn is whether the commands stop here
  pub tests : (b : Bool) → b ≡ whole (drop at commands) → not (b && leb (r.written + 261) (length is)) ≡ stops l s commands (length was) r.played
  unfolding stops
  tests b e = simp (e, f.here, f.same', f.after.written)

  -- both ways out of the loop
  pub stopped : r.played < n → stops l s commands (length was) r.played ≡ true → Runs l s commands n was r image is
  stopped h t = record { played = search_found (stops l s commands (length was)) n r.played h f.search t; after = f.after }

  pub finished : n ≤ r.played → Runs l s commands n was r image is
  finished h =
      let few = f.few in
      let same : r.played ≡ n = omega arith in
      record { played = same ∙ search-end (stops l s commands (length was)) n r.played f.few h f.search; after = f.after }
