-- SELECT and STATUS on an image whose head was lent as its first bytes.
use Rattle.std.specs.Prelude.{ℕ, Option, Some, None}
use Prim.Native.Nat.{ℕ, ◌+◌, ◌-◌, ◌*◌, ◌≤◌, ◌<◌}
use mathlib.Core.Path.{◌≡◌, refl, ap, subst, ◌∙◌}
use mathlib.Core.List.{List, [], ◌++◌}
use mathlib.Core.Bool.{true, false}
use native.Mathlib.Omega.{arith}
use lib.Dec.{ltb}
use lib.ListN.{length, replicate}
use borrow.Author.Tests.{ltb-true, lt-ltb, le-ltb}
use Rattle.card.specs.Answers as card
use Rattle.card.specs.Bytes.{part}
use Rattle.card.specs.Layout.{index, file, file_entry, head}
use Rattle.card.specs.Select.{find_directory, find_file, directory_response, file_response, first_pointer, select, tell_status}
use Rattle.card.specs.Sessions.{fits, waits, enters}
use Rattle.card.specs.declared.Entry.{Entry}
use Rattle.card.specs.declared.Index.{Index}
use Rattle.card.specs.declared.Session.{Session}
use Rattle.card.proofs.Tests.{both, indeed, otherwise}
use Rattle.commands.specs.Gives.{brief, Gives, Says}
use Rattle.commands.specs.declared.answers.Reply.{Reply}
use Rattle.shelf.specs.Reads.{Head}
use Rattle.shelf.proofs.Heading.{file_read}
use Rattle.acts.specs.Leaves.{Tells}
use Rattle.acts.specs.Ready.{Ready}
use Rattle.acts.proofs.Kept.{tells, quiet}
use Rattle.acts_select.specs.Finds.{found_directory, found_file}
use Rattle.acts_select.specs.declared.Found.{Found}

-- a session that fits has a directory that exists
within : (h : List ℕ) (s : Session) → fits h s ≡ true → s.directory < (index h).directories
unfolding fits
within h s e = ltb-true _ _ (both _ _ (both _ _ e).0).0

-- a file that was found, by its entry
pub file_found : (h : List ℕ) (i : Index) (d f : ℕ) (e : Entry) (p : Option ℕ) (b : List ℕ) → i ≡ index h → e ≡ file_entry h (i.table + 14 * f)
    → p ≡ first_pointer e
    → b ≡ file_response e ++ replicate 11 0
    → record { directory = d; current = Some f; pointer = p; told = b; from = 0; count = 15 } ≡ found_file h d f
unfolding found_file
file_found h i d f e p b is x q m = rw (m, q, file_read h i is f e x)

-- the bytes that SELECT reads, as its code takes them: 22 from where those on what was found stand
abbrev read : Found → List ℕ
read x = part x.told x.from (x.from + 22 - x.from)

-- There are 22 of them, and at most all of them tell of it.
pub record Readable (x : Found) : Type 0 where
  pub early : x.from ≤ 4
  pub inside : x.from + 22 ≤ length x.told
  pub all : length (read x) ≡ 22
  pub few : x.count ≤ 22

pub directory_readable : (h : List ℕ) (d : ℕ) (x : Found) → x ≡ found_directory h d → Readable x
unfolding found_directory directory_response
directory_readable h d x e = rw e (record { early = omega arith; inside = omega arith; all = refl; few = omega arith })

pub file_readable : (h : List ℕ) (d f : ℕ) (x : Found) → x ≡ found_file h d f → Readable x
unfolding found_file file_response
file_readable h d f x e = rw e (record { early = omega arith; inside = omega arith; all = refl; few = omega arith })

-- the head of an image that is tested, as it was lent
module _ {l : List ℕ} {s : Session} (r : Ready l s) (h : List ℕ) (i : Index) (k : Head h i) (lent : h ≡ head l) where
  known : i ≡ index h
  known = k.indexed.is

  directories : i.directories ≡ (index h).directories
  directories = ap (λ (i : Index). i.directories) known

  files : i.files ≡ (index h).files
  files = ap (λ (i : Index). i.files) known

  pub here : s.directory < i.directories
  here = omega (arith, directories, ap (λ (x : List ℕ). (index x).directories) lent, within (head l) s r.session)

  -- what is said of the bytes that were lent is said of the head
  silently : (command : List ℕ → card.Reply) (t : Reply) → Says (command h) t → (room : List ℕ)
      → Tells (command (head l)) l s t room room
  silently command t g room = tells r (command (head l)) t room room (quiet (rw lent at g) room)

  -- SELECT finds a directory, a file, or nothing: these bytes on what it found wait
  abbrev entered : Found → List ℕ → card.Reply
  entered x b = card.reply [] (0x9f00 + x.count) (waits b (enters x.directory x.current x.pointer s))

  -- what the code answers, by the 22 bytes that it reads
  abbrev Entered : Found → Reply → Type 0
  Entered x t = (b : List ℕ) → length b ≡ x.count → read x ≡ b ++ replicate (22 - x.count) 0 → t ≡ brief (entered x b)

  pub to_directory : (id d : ℕ) (x : Found) (t : Reply) → d < i.directories → d ≡ find_directory h s.directory id
      → x ≡ found_directory h d
      → Entered x t
      → (room : List ℕ) → Tells (select (head l) s id) l s t room room
  unfolding select found_directory directory_response
  to_directory id d x t n e b q =
      silently (λ x. select x s id) t
      (subst (λ (r : card.Reply). Says r t)
      (ap (λ (d : ℕ). card.reply [] 0x9f16 (waits (directory_response h d) (enters d None None s))) e
      ∙ indeed _ _ _ (lt-ltb (find_directory h s.directory id) (index h).directories (omega (arith, directories, e))))
      (record { reply = (rw b at q) (directory_response h d) refl refl; silent = refl }))

  strays : (id : ℕ) → find_directory h s.directory id ≡ i.directories
      → ltb (find_directory h s.directory id) (index h).directories ≡ false
  strays id none = le-ltb (find_directory h s.directory id) (index h).directories (omega (arith, directories, none))

  pub to_file : (id f : ℕ) (x : Found) (t : Reply) → find_directory h s.directory id ≡ i.directories
      → f < i.files → f ≡ find_file h s.directory id
      → x ≡ found_file h s.directory f
      → Entered x t
      → (room : List ℕ) → Tells (select (head l) s id) l s t room room
  unfolding select found_file file_response
  to_file id f x t none m g b q =
      silently (λ x. select x s id) t
      (subst (λ (r : card.Reply). Says r t)
      (ap (λ (f : ℕ). card.reply [] 0x9f0f (waits (file_response (file h f)) (enters s.directory (Some f) (first_pointer (file h f)) s))) g
      ∙ indeed _ _ _ (lt-ltb (find_file h s.directory id) (index h).files (omega (arith, files, g)))
      ∙ otherwise _ _ _ (strays id none))
      (record { reply = (rw b at q) (file_response (file h f)) refl refl; silent = refl }))

  pub to_nothing : (id : ℕ) (t : Reply) → find_directory h s.directory id ≡ i.directories
      → find_file h s.directory id ≡ i.files
      → t ≡ brief (card.refusal s 0x9404)
      → (room : List ℕ) → Tells (select (head l) s id) l s t room room
  unfolding select
  to_nothing id t none m q =
      silently (λ x. select x s id) t
      (subst (λ (r : card.Reply). Says r t)
      (otherwise _ _ _ (le-ltb (find_file h s.directory id) (index h).files (omega (arith, files, m))) ∙ otherwise _ _ _ (strays id none))
      (record { reply = q; silent = refl }))

  -- STATUS, by the bytes on the current directory
  pub status : (n : ℕ) (bytes was now : List ℕ) (t : Reply) → bytes ≡ replicate 4 0 ++ directory_response h s.directory
      → ((x : List ℕ) → bytes ≡ replicate 4 0 ++ directory_response x s.directory → Gives (tell_status x s n) t was now)
      → Tells (tell_status (head l) s n) l s t was now
  status n bytes was now t b gives = tells r (tell_status (head l) s n) t was now (gives (head l) (rw lent at b))
