-- That hidden bytes stay hidden speaks of something: on a small card a file's bytes stay closed until CHV1 is presented, and show after.
use Prim.Native.Nat.{ℕ}
use mathlib.Core.Path.{◌≡◌, refl, sym, subst}
use mathlib.Core.List.{List, [], ◌∷◌, ◌++◌, map}
use mathlib.Core.Bool.{Bool, true, false}
use mathlib.Core.Logic.{◌⊎◌, inl, inr}
use native.Mathlib.Omega.{arith}
use lib.Dec.{eqb}
use lib.ListN.{replicate, set, length-set}
use lib.Seq.{get_or-set_other}
use borrow.Author.Tests.{eqb-true, eqb-false}
use Rattle.card.specs.Bytes.{byte, word, every, none, how_many, first_from, same}
use Rattle.card.specs.Layout.{index, code_entry, code, directory_entry, directory, file_entry, file, sizes, start, head, contents}
use Rattle.card.specs.Shelf.{all, below, within, twins, twin_files, records_rule, top_rule, code_rules, directory_rules, file_rules, codes_sound, directories_sound, files_sound, bytes_sound, is_image}
use Rattle.card.specs.Sessions.{pointed, stands, padded, fits, reset}
use Rattle.card.specs.Access.{rights, shared}
use Rattle.card.specs.Answers.{unless, first}
use Rattle.card.specs.Select.{select, file_response, leads, named, find_directory, find_file}
use Rattle.card.specs.Binary.{binary, read_binary}
use Rattle.card.specs.Forms.{instruction_of, formed, sent}
use Rattle.card.specs.Codes.{tested, verify}
use Rattle.card.specs.Play.{act, perform_as, perform, play, run}
use Rattle.card.specs.Demands.{Commands, Inside, Apart, Closed, Shut, ShutThrough, Throughout}
use Rattle.card.specs.declared.Session.{Session}
use Rattle.card.proofs.Unseen.{hidden}

-- CHV1 is eight times 31 and CHV2 eight times 32; one directory, 3F00; one file, 2F05, of the two bytes AA BB, which CHV1 opens for READ
abbrev pub card : List ℕ
card =
    (0 ∷ 2 ∷ 0xc0 ∷ 3 ∷ 10 ∷ 0 ∷ replicate 8 0x31) ++ replicate 8 0x33
    ++ (0xc0 ∷ 3 ∷ 10 ∷ 0 ∷ replicate 8 0x32) ++ replicate 8 0x34
    ++ (0 ∷ 1 ∷ 0x3f ∷ 0 ∷ 0 ∷ 0x13 ∷ 0 ∷ 0 ∷ 4 ∷ 0 ∷ [])
    ++ (0 ∷ 1 ∷ 0x2f ∷ 5 ∷ 0 ∷ 0 ∷ 0 ∷ 0 ∷ 0x14 ∷ 0 ∷ 0x44 ∷ 1 ∷ 0 ∷ 2 ∷ 0 ∷ 0 ∷ [])
    ++ (0 ∷ 2 ∷ 0xaa ∷ 0xbb ∷ [])

-- the same card with CC for BB
abbrev pub other : List ℕ
other = set card 71 0xcc

abbrev pub secret : ℕ → Bool
secret f = eqb f 0

-- SELECT 2F05, READ BINARY; and the same with VERIFY before it
abbrev pub blindly : Commands
blindly = (0xa0 ∷ 0xa4 ∷ 0 ∷ 0 ∷ 2 ∷ 0x2f ∷ 5 ∷ [], 258) ∷ (0xa0 ∷ 0xb0 ∷ 0 ∷ 0 ∷ 2 ∷ [], 258) ∷ []

abbrev pub knowing : Commands
knowing = (0xa0 ∷ 0x20 ∷ 0 ∷ 1 ∷ 8 ∷ replicate 8 0x31, 258) ∷ blindly

abbrev pub responses : List ℕ → Commands → List (List ℕ)
responses l cs = map (λ o. o.response) (run l reset cs)

place : Inside secret card 71
unfolding index word file_entry file sizes start
place = record { which = 0; exists = omega arith; named = refl; from = omega arith; to = omega arith }

alike : Apart secret card other
alike = record { long = sym (length-set card 71 0xcc); bytes = λ k. go k (eqb k 71) refl }
  where
    go : (k : ℕ) (t : Bool) → eqb k 71 ≡ t → (byte card k ≡ byte other k) ⊎ Inside secret card k
    go k true e = inr (subst (λ j. Inside secret card j) (sym (eqb-true k 71 e)) place)
    go k false e = inl (sym (get_or-set_other card 71 k 0xcc 0 (eqb-false k 71 e)))

only : (l : List ℕ) (s : Session) → Closed l s 0 → Shut secret l s
only l s c f n x = subst (λ k. Closed l s k) (sym (eqb-true f 0 x)) c

-- Both are images; the file is closed through the first run, which is played and refuses the READ; and the second run tells them apart.
pub record Seen : Type 0 where
  pub image : is_image card ≡ true
  pub image' : is_image other ≡ true
  pub closed : ShutThrough secret card reset blindly
  pub refused : responses card blindly ≡ (0x9f ∷ 0x0f ∷ []) ∷ (0x98 ∷ 4 ∷ []) ∷ []
  pub shown : responses card knowing ≡ (0x90 ∷ 0 ∷ []) ∷ (0x9f ∷ 0x0f ∷ []) ∷ (0xaa ∷ 0xbb ∷ 0x90 ∷ 0 ∷ []) ∷ []
  pub shown' : responses other knowing ≡ (0x90 ∷ 0 ∷ []) ∷ (0x9f ∷ 0x0f ∷ []) ∷ (0xaa ∷ 0xcc ∷ 0x90 ∷ 0 ∷ []) ∷ []

pub seen : Seen
unfolding ShutThrough run play perform perform_as act instruction_of formed sent head contents start tested verify binary read_binary select file_response leads named find_directory find_file unless first rights shared fits pointed stands padded same first_from is_image codes_sound directories_sound files_sound bytes_sound all below within twins twin_files records_rule top_rule none every how_many code_rules directory_rules file_rules word index code_entry code directory_entry directory file_entry file sizes
seen =
    record {
      image = refl;
      image' = refl;
      closed = (
        only _ _ (record { unread = refl; uncounted = inl refl }),
        (only _ _ (record { unread = refl; uncounted = inl refl }), tt),
      );
      refused = refl;
      shown = refl;
      shown' = refl;
    }

-- the first run on both
pub unseen : Throughout secret (run card reset blindly) (run other reset blindly)
unseen = hidden secret card other blindly alike seen.closed
