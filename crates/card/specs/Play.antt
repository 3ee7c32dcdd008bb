-- Paper 01, "Host answers" and "Order of refusals", put together: one command on an image and a session, and runs of commands.
--
-- A command sees the head of the image, which is all before the files' bytes, the bytes of the current file, and the session. What
-- decides goes by the head; only READ, SEEK and INCREASE look at the bytes, after their right to.
use Rattle.std.specs.Prelude.{ℕ, ◌+◌, ◌-◌, ◌*◌, ◌/◌, List, [], ◌∷◌, ◌++◌, true, false, length, drop, set, eqb, ltb, Option, Some, None}
use Rattle.card.specs.Bytes.{byte, word, part, splice}
use Rattle.card.specs.Layout.{index, code_at, file, head, contents, start, status_at, top_at}
use Rattle.card.specs.Shelf.{is_image}
use Rattle.card.specs.Sessions.{fits, dropped}
use Rattle.card.specs.Access.{rights, on_file}
use Rattle.card.specs.Answers.{number, Reply, reply, response, refusal, Marked, Written, Coded, Effect, effect, first}
use Rattle.card.specs.Select.{select, tell_status, get_response}
use Rattle.card.specs.Binary.{read_binary, update_binary}
use Rattle.card.specs.Records.{read_record, update_record}
use Rattle.card.specs.Seek.{seek_record}
use Rattle.card.specs.Increase.{increase_by}
use Rattle.card.specs.Marks.{invalidate, rehabilitate}
use Rattle.card.specs.Codes.{verify, change, disable, enable, unblock}
use Rattle.card.specs.Forms.{instruction_of, formed, sent}
use Rattle.card.specs.declared.Answer.{Answer}
use Rattle.card.specs.declared.Answer.TheVariants.{Played, NotAnImage, DoesNotFit, RoomTooSmall, WrongLength}
use Rattle.card.specs.declared.Session.{Session}
use Rattle.card.specs.declared.Entry.{Entry}
use Rattle.card.specs.declared.Rights.{Rights}
use Rattle.card.specs.declared.Instruction.{Instruction}
use Rattle.card.specs.declared.Instruction.TheVariants.{Select, Status, ReadBinary, UpdateBinary, ReadRecord, UpdateRecord, Seek, Increase, Verify, Change, Disable, Enable, Unblock, Invalidate, Rehabilitate, Sleep, GetResponse, Unknown}

-- The host's answer, the response, and the image and the session afterwards.
pub record Outcome : Type 0 where
  pub host : ℕ
  pub response : List ℕ
  pub image : List ℕ
  pub session : Session

-- "On 1 to 4 the response count is 0", and everything is left.
abbrev pub declined : Answer → List ℕ → Session → Outcome
declined a l s = record { host = number a; response = []; image = l; session = s }

-- "READ BINARY with P3 0 means 256."
abbrev pub wanted : ℕ → ℕ
wanted n = elim (eqb n 0) [ true ↦ 256 | false ↦ n ]

-- a command that leaves the card as it is
abbrev pub leaves : List ℕ → List ℕ → Reply → Effect
leaves h b r = effect h b r

-- a command on code c goes by the 20 bytes of its entry
abbrev pub by_code : List ℕ → List ℕ → ℕ → (List ℕ → ℕ → Coded) → Effect
by_code h b c command =
    let k = command (part h (code_at c) 20) c in
    effect (splice h (code_at c) 20 k.entry) b k.given

-- what a command on the current file may change: nothing, the file's status, or the file's bytes and its top
abbrev pub reads : List ℕ → List ℕ → ℕ → Reply → Effect
reads h b f r = effect h b r

abbrev pub marks : List ℕ → List ℕ → ℕ → Marked → Effect
marks h b f m = effect (set h (status_at (index h) f) m.status) b m.given

abbrev pub writes : List ℕ → List ℕ → ℕ → Written → Effect
writes h b f w = effect (set h (top_at (index h) f) w.top) w.contents w.given

-- a command on the current file goes by the rights and the file's entry
abbrev pub by_file : {A : Type 0} → (List ℕ → List ℕ → ℕ → A → Effect) → List ℕ → List ℕ → Session → (Rights → Entry → A) → Effect
by_file leave h b s command =
    on_file h s.current (λ w. effect h b (refusal s w)) (λ f e. leave h b f (command (rights h s) e))

-- what a command of the right form does with a head and the current file's bytes; p, q and n are P1, P2 and P3, d the data. VERIFY and
-- CHANGE name CHV1 by 1, UNBLOCK by 0. "SLEEP has no effect."
unfoldable pub act : Instruction → List ℕ → List ℕ → Session → ℕ → ℕ → ℕ → List ℕ → Effect
act Select h b s p q n d = leaves h b (select h s (word d 0))
act Status h b s p q n d = leaves h b (tell_status h s n)
act ReadBinary h b s p q n d = by_file reads h b s (λ r e. read_binary r e b s (p * 256 + q) (wanted n))
act UpdateBinary h b s p q n d = by_file writes h b s (λ r e. update_binary r e b s (p * 256 + q) d)
act ReadRecord h b s p q n d = by_file reads h b s (λ r e. read_record r e b s p q n)
act UpdateRecord h b s p q n d = by_file writes h b s (λ r e. update_record r e b s p q d)
act Seek h b s p q n d = by_file reads h b s (λ r e. seek_record r e b s q d)
act Increase h b s p q n d = by_file writes h b s (λ r e. increase_by r e b s d)
act Verify h b s p q n d = by_code h b (q - 1) (λ e c. verify e s c d)
act Change h b s p q n d = by_code h b (q - 1) (λ e c. change e s c d)
act Disable h b s p q n d = by_code h b 0 (λ e c. disable e s c d)
act Enable h b s p q n d = by_code h b 0 (λ e c. enable e s c d)
act Unblock h b s p q n d = by_code h b (q / 2) (λ e c. unblock e s c d)
act Invalidate h b s p q n d = by_file marks h b s (λ r e. invalidate r e s)
act Rehabilitate h b s p q n d = by_file marks h b s (λ r e. rehabilitate r e s)
act Sleep h b s p q n d = leaves h b (reply [] 0x9000 (dropped s))
act GetResponse h b s p q n d = leaves h b (get_response s n)
act Unknown h b s p q n d = leaves h b (refusal s 0x6d00)

-- the current file's bytes; an image with another head, and with other bytes in the current file
abbrev pub opened : List ℕ → Option ℕ → List ℕ
opened l None = []
opened l (Some f) = contents l f

abbrev pub headed : List ℕ → List ℕ → List ℕ
headed l h = h ++ drop (length h) l

abbrev pub filled : List ℕ → Option ℕ → List ℕ → List ℕ
filled l None b = l
filled l (Some f) b = splice l (start l f) (file l f).size b

abbrev pub told : List ℕ → Reply → Outcome
told l r = record { host = number Played; response = response r; image = l; session = r.session }

-- the image after a command's effect, and the outcome
abbrev pub afterwards : List ℕ → Option ℕ → Effect → List ℕ
afterwards l c e = headed (filled l c e.contents) e.head

abbrev pub done : List ℕ → Option ℕ → Effect → Outcome
done l c e = told (afterwards l c e) e.given

-- "6E 00 class", which leaves the waiting response; the command's form; "host 4"; and then the command itself. "The data handed on is the
-- part of the command after its fifth byte."
unfoldable pub perform_as : Instruction → List ℕ → Session → List ℕ → Outcome
perform_as i l s c =
    let w = first (formed i (byte c 2) (byte c 3) (byte c 4)) in
    elim (eqb (byte c 0) 0xa0) [
      | false ↦ told l (reply [] 0x6e00 s)
      | true ↦
          elim (eqb w 0) [
            | false ↦ told l (refusal s w)
            | true ↦
                elim (eqb (length (drop 5 c)) (sent i (byte c 4))) [
                  | false ↦ declined WrongLength l s
                  | true ↦ done l s.current (act i (head l) (opened l s.current) s (byte c 2) (byte c 3) (byte c 4) (drop 5 c))
                ]
          ]
    ]

unfoldable pub perform : List ℕ → Session → List ℕ → Outcome
perform l s c = perform_as (instruction_of (byte c 1)) l s c

-- "Given when, in this order": the host's answers 1 to 4, and then the command, with so much room for its response
unfoldable pub play : List ℕ → Session → List ℕ → ℕ → Outcome
play l s c room =
    elim (is_image l) [
      | false ↦ declined NotAnImage l s
      | true ↦
          elim (fits (head l) s) [
            | false ↦ declined DoesNotFit l s
            | true ↦
                elim (ltb room 258)
                [ true ↦ declined RoomTooSmall l s | false ↦ elim (ltb (length c) 5) [ true ↦ declined WrongLength l s | false ↦ perform l s c ] ]
          ]
    ]

-- the outcomes of commands, each with its room, one after the other
unfoldable pub run : List ℕ → Session → List (List ℕ × ℕ) → List Outcome
run l s [] = []
run l s (c ∷ cs) = let o = play l s c.0 c.1 in o ∷ run o.image o.session cs
