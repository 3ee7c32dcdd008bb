-- A refusal keeps what it finds: command by command, on a head and the current file's bytes.
use Prim.Native.Nat.{ℕ, ◌+◌, ◌-◌, ◌*◌, ◌/◌, ◌<◌}
use mathlib.Core.Path.{◌≡◌, refl, sym, ap, ◌∙◌}
use mathlib.Core.List.{List, []}
use mathlib.Core.Bool.{Bool, true, false, ◌||◌, not}
use mathlib.Core.Logic.{◌⊎◌, inl, inr}
use native.Mathlib.Omega.{arith}
use lib.Dec.{eqb, ltb}
use lib.ListN.{length, take, set}
use lib.Seq.{set-get_or, take_all}
use borrow.Author.Tests.{eqb-true, eqb-false, eq-eqb}
use Rattle.card.specs.Bytes.{byte, part, splice, same}
use Rattle.card.specs.Layout.{index, code_at, code_entry, file, cyclic, status_at, top_at}
use Rattle.card.specs.Sessions.{dropped}
use Rattle.card.specs.Access.{rights}
use Rattle.card.specs.Answers.{Reply, refusal, first, Coded, Marked, Written, Effect, effect}
use Rattle.card.specs.Select.{select, tell_status, get_response, find_directory, find_file}
use Rattle.card.specs.Binary.{read_binary, update_binary}
use Rattle.card.specs.Records.{read_record, update_record}
use Rattle.card.specs.Seek.{seek_record}
use Rattle.card.specs.Increase.{increase_by}
use Rattle.card.specs.Marks.{invalidate, rehabilitate}
use Rattle.card.specs.Codes.{Key, chv, unblocking, value, attempts_left, attempts_at, ready, tested, verify, change, disable, enable, unblock}
use Rattle.card.specs.Forms.{both, formed, sent}
use Rattle.card.specs.Play.{act, reads, marks, writes, by_file, by_code, wanted}
use Rattle.card.specs.Demands.{carried_out, Tries, verifies, changes, disables, enables, unblocks}
use Rattle.card.specs.declared.Entry.{Entry}
use Rattle.card.specs.declared.Rights.{Rights}
use Rattle.card.specs.declared.Session.{Session}
use Rattle.card.specs.declared.Instruction.{Instruction}
use Rattle.card.specs.declared.Instruction.TheVariants.{Select, Status, ReadBinary, UpdateBinary, ReadRecord, UpdateRecord, Seek, Increase, Verify, Change, Disable, Enable, Unblock, Invalidate, Rehabilitate, Sleep, GetResponse, Unknown}
use Rattle.card.proofs.Tests.{apart, same_test, same_self}
use Rattle.card.proofs.Parts.{splice_self, splice_set, part_at}
use Rattle.card.proofs.Entries.{status_byte, top_byte}
use Rattle.card.proofs.Refusals.{guarded, choice, of_file, passed}
use Rattle.card.proofs.Forms.{fixed, numbered, minus_one, halved}

-- A reply says that its command was carried out, or it is a refusal, and then something was left.
pub data Ends (s : Session) (Left : Type 0) (r : Reply) : Type 0 where
  done : carried_out r.word ≡ true → Ends s Left r
  kept : r.bytes ≡ [] → (r.session ≡ s) ⊎ (r.session ≡ dropped s) → Left → Ends s Left r

so : {s : Session} {A B : Type 0} {r : Reply} → (A → B) → Ends s A r → Ends s B r
so f (done w) = done w
so f (kept b t a) = kept b t (f a)

-- Commands that leave the card as it is, and commands on a file: a refusal leaves its bytes, its top and its status.
module _ (h : List ℕ) (s : Session) where
  abbrev R : Reply → Type 0
  R r = Ends s Unit r

  select_ends : (id : ℕ) → R (select h s id)
  unfolding select
  select_ends id =
      choice R (ltb (find_directory h s.directory id) (index h).directories) _ _ (λ t. done refl)
      (λ t. choice R (ltb (find_file h s.directory id) (index h).files) _ _ (λ u. done refl) (λ u. kept refl (inr refl) tt))

  status_ends : (n : ℕ) → R (tell_status h s n)
  unfolding tell_status
  status_ends n = done refl

  response_ends : (n : ℕ) → R (get_response s n)
  unfolding get_response
  response_ends n =
      choice R (eqb s.count 0) _ _ (λ t. kept refl (inr refl) tt)
      (λ t. choice R (eqb n 0 || ltb s.count n) _ _ (λ u. kept refl (inl refl) tt) (λ u. done refl))

module _ (r : Rights) (e : Entry) (b : List ℕ) (s : Session) where
  abbrev W : Written → Type 0
  W w = Ends s ((w.contents ≡ b) × (w.top ≡ e.top)) w.given

  abbrev M : Marked → Type 0
  M m = Ends s (m.status ≡ e.status) m.given

  read_ends : (at n : ℕ) → Ends s Unit (read_binary r e b s at n)
  unfolding read_binary
  read_ends at n = guarded (Ends s Unit) (read_binary r e b s at n) _ _ _ refl (λ w. kept refl (inr refl) tt) (λ p. done refl)

  update_ends : (at : ℕ) (new : List ℕ) → W (update_binary r e b s at new)
  unfolding update_binary
  update_ends at new = guarded W (update_binary r e b s at new) _ _ _ refl (λ w. kept refl (inr refl) (refl, refl)) (λ p. done refl)

  record_ends : (number mode n : ℕ) → Ends s Unit (read_record r e b s number mode n)
  unfolding read_record
  record_ends number mode n = guarded (Ends s Unit) (read_record r e b s number mode n) _ _ _ refl (λ w. kept refl (inr refl) tt) (λ p. done refl)

  renew_ends : (number mode : ℕ) (new : List ℕ) → W (update_record r e b s number mode new)
  unfolding update_record
  renew_ends number mode new =
      guarded W (update_record r e b s number mode new) _ _ _ refl (λ w. kept refl (inr refl) (refl, refl)) (λ p. choice W (cyclic e) _ _ (λ y. done refl) (λ y. done refl))

  seek_ends : (mode : ℕ) (pattern : List ℕ) → Ends s Unit (seek_record r e b s mode pattern)
  unfolding seek_record
  seek_ends mode pattern =
      guarded (Ends s Unit) (seek_record r e b s mode pattern) _ _ _ refl (λ w. kept refl (inr refl) tt)
      (λ p. choice (Ends s Unit) (eqb (mode / 16) 0) _ _ (λ t. done refl) (λ t. done refl))

  increase_ends : (added : List ℕ) → W (increase_by r e b s added)
  unfolding increase_by
  increase_ends added = guarded W (increase_by r e b s added) _ _ _ refl (λ w. kept refl (inr refl) (refl, refl)) (λ p. done refl)

  invalidate_ends : M (invalidate r e s)
  unfolding invalidate
  invalidate_ends = guarded M (invalidate r e s) _ _ _ refl (λ w. kept refl (inr refl) refl) (λ p. done refl)

  rehabilitate_ends : M (rehabilitate r e s)
  unfolding rehabilitate
  rehabilitate_ends = guarded M (rehabilitate r e s) _ _ _ refl (λ w. kept refl (inr refl) refl) (λ p. done refl)

-- A wrong code: in the 20 bytes of its entry only its counter is another, one less than before.
record Fallen (e given : List ℕ) (key : Key) (k : Coded) : Type 0 where
  pub left : ℕ
  pub wrong : value key e ≡ given → ⊥
  pub before : byte e (attempts_at key) ≡ left + 1
  pub entry : k.entry ≡ set e (attempts_at key) left
  pub tells : k.given.word ≡ elim (eqb left 0) [ true ↦ 0x9840 | false ↦ 0x9804 ]

left_byte : (key : Key) (e : List ℕ) → attempts_left key (code_entry e 0) ≡ byte e (attempts_at key)
unfolding code_entry
left_byte chv e = refl
left_byte unblocking e = refl

-- the last attempt
last : (n : ℕ) → (n ≡ 0 → ⊥) → eqb n 1 ≡ eqb (n - 1) 0
last n z =
    same_test _ _ (λ e. let o = eqb-true n 1 e in eq-eqb (n - 1) 0 (omega arith))
    (λ e. let o = eqb-true (n - 1) 0 e in eq-eqb n 1 (omega arith))

abbrev C : List ℕ → Session → List ℕ → Key → Coded → Type 0
C e s given key k = Ends s ((k.entry ≡ e) ⊎ Fallen e given key k) k.given

tested_ends : (e : List ℕ) (s : Session) (c : ℕ) (key : Key) (contradicts : Bool) (given renewal : List ℕ)
    → C e s given key (tested e s c key contradicts given renewal)
unfolding tested
tested_ends e s c key contradicts given renewal =
    guarded (C e s given key) (tested e s c key contradicts given renewal) _ _ _ refl (λ w. kept refl (inr refl) (inl refl))
    (λ p.
    choice (C e s given key) (same (value key e) given) _ _ (λ t. done refl)
    (λ t.
    let n = attempts_left key (code_entry e 0) in
    let z = eqb-false n 0 (passed _ _ _ (passed (not (ready key (code_entry e 0))) _ _ p refl).1 refl).0 in
    let o = left_byte key e in
    kept refl (inr refl)
    (inr
    (record {
      left = n - 1;
      wrong = λ q. apart (ap (λ x. same x given) q ∙ same_self given) t;
      before = omega arith;
      entry = refl;
      tells = ap (λ x. elim x [ true ↦ 0x9840 | false ↦ 0x9804 ]) (last n z);
    }))))

-- Any command, by what it leaves of the head and of the file's bytes. A refusal leaves both, or a wrong code has lowered its counter:
-- `Fell` says of a head what `Lowered` says of an image.
pub record Fell (h : List ℕ) (i : Instruction) (q : ℕ) (d : List ℕ) (e : Effect) : Type 0 where
  pub key : Key
  pub number : ℕ
  pub left : ℕ
  pub tries : Tries i q key number
  pub exists : number < 2
  pub wrong : value key (part h (code_at number) 20) ≡ take 8 d → ⊥
  pub before : byte h (code_at number + attempts_at key) ≡ left + 1
  pub head : e.head ≡ set h (code_at number + attempts_at key) left
  pub tells : e.given.word ≡ elim (eqb left 0) [ true ↦ 0x9840 | false ↦ 0x9804 ]

pub counter_in : (key : Key) → attempts_at key < 20
counter_in chv = omega arith
counter_in unblocking = omega arith

module _ (h b : List ℕ) (s : Session) (i : Instruction) (q : ℕ) (d : List ℕ) where
  abbrev pub E : Effect → Type 0
  E e = Ends s ((e.contents ≡ b) × ((e.head ≡ h) ⊎ Fell h i q d e)) e.given

  told : {r : Reply} → Ends s Unit r → E (effect h b r)
  told = so (λ u. (refl, inl refl))

  fileless : E (effect h b (refusal s 0x9400))
  fileless = told (kept refl (inr refl) tt)

  read : (command : Rights → Entry → Reply) → ((r : Rights) (e : Entry) → Ends s Unit (command r e)) → E (by_file reads h b s command)
  read command p = of_file E h s.current _ _ fileless (λ f c. told (p _ _))

  marked : (command : Rights → Entry → Marked) → ((r : Rights) (e : Entry) → M r e b s (command r e)) → E (by_file marks h b s command)
  marked command p =
      of_file E h s.current _ _ fileless
      (λ f c. so (λ u. (refl, inl (ap (set h (status_at (index h) f)) (u ∙ status_byte h f) ∙ set-get_or h _ 0))) (p (rights h s) (file h f)))

  written : (command : Rights → Entry → Written) → ((r : Rights) (e : Entry) → W r e b s (command r e)) → E (by_file writes h b s command)
  written command p =
      of_file E h s.current _ _ fileless
      (λ f c. so (λ u. (u.0, inl (ap (set h (top_at (index h) f)) (u.1 ∙ top_byte h f) ∙ set-get_or h _ 0))) (p (rights h s) (file h f)))

  coded : (c : ℕ) (key : Key) (given : List ℕ) (k : Coded) → Tries i q key c → c < 2 → given ≡ take 8 d → C (part h (code_at c) 20) s given key k
      → E (by_code h b c (λ e c. k))
  coded c key given k t n g p = so go p
    where
      go : (k.entry ≡ part h (code_at c) 20) ⊎ Fallen (part h (code_at c) 20) given key k
          → (b ≡ b)
          × (((by_code h b c (λ e c. k)).head ≡ h) ⊎ Fell h i q d (by_code h b c (λ e c. k)))
      go (inl e) = (refl, inl (ap (splice h (code_at c) 20) e ∙ splice_self h (code_at c) 20))
      go (inr f) = (
        refl,
        inr
            (record {
              key = key;
              number = c;
              left = f.left;
              tries = t;
              exists = n;
              wrong = λ w. f.wrong (w ∙ sym g);
              before = sym (part_at h (code_at c) 20 (attempts_at key) (counter_in key)) ∙ f.before;
              head = ap (splice h (code_at c) 20) f.entry ∙ splice_set h (code_at c) 20 (attempts_at key) f.left (counter_in key);
              tells = f.tells;
            }),
      )

pub ends : (h b : List ℕ) (s : Session) (i : Instruction) (p q n : ℕ) (d : List ℕ) → first (formed i p q n) ≡ 0 → length d ≡ sent i n
    → E h b s i q d (act i h b s p q n d)
unfolding act formed sent verify change disable enable unblock
ends h b s Select p q n d f z = told h b s Select q d (select_ends h s _)
ends h b s Status p q n d f z = told h b s Status q d (status_ends h s n)
ends h b s ReadBinary p q n d f z = read h b s ReadBinary q d _ (λ r e. read_ends r e b s (p * 256 + q) (wanted n))
ends h b s UpdateBinary p q n d f z = written h b s UpdateBinary q d _ (λ r e. update_ends r e b s (p * 256 + q) d)
ends h b s ReadRecord p q n d f z = read h b s ReadRecord q d _ (λ r e. record_ends r e b s p q n)
ends h b s UpdateRecord p q n d f z = written h b s UpdateRecord q d _ (λ r e. renew_ends r e b s p q d)
ends h b s Seek p q n d f z = read h b s Seek q d _ (λ r e. seek_ends r e b s q d)
ends h b s Increase p q n d f z = written h b s Increase q d _ (λ r e. increase_ends r e b s d)
ends h b s Verify p q n d f z =
    let g = numbered p q n 1 2 8 0x6708 f refl in
    coded h b s Verify q d _ chv d _ (verifies q) (minus_one q g.0) (sym (take_all 8 d (omega arith))) (tested_ends _ s _ _ _ _ _)
ends h b s Change p q n d f z =
    coded h b s Change q d _ chv _ _ (changes q) (minus_one q (numbered p q n 1 2 16 0x6710 f refl).0) refl (tested_ends _ s _ _ _ _ _)
ends h b s Disable p q n d f z =
    let g = fixed (both 0 1 p q) 8 0x6708 n f refl in
    coded h b s Disable q d _ chv d _ (disables q) (omega arith) (sym (take_all 8 d (omega arith))) (tested_ends _ s _ _ _ _ _)
ends h b s Enable p q n d f z =
    let g = fixed (both 0 1 p q) 8 0x6708 n f refl in
    coded h b s Enable q d _ chv d _ (enables q) (omega arith) (sym (take_all 8 d (omega arith))) (tested_ends _ s _ _ _ _ _)
ends h b s Unblock p q n d f z =
    coded h b s Unblock q d _ unblocking _ _ (unblocks q) (halved q (numbered p q n 0 2 16 0x6710 f refl).0) refl (tested_ends _ s _ _ _ _ _)
ends h b s Invalidate p q n d f z = marked h b s Invalidate q d _ (λ r e. invalidate_ends r e b s)
ends h b s Rehabilitate p q n d f z = marked h b s Rehabilitate q d _ (λ r e. rehabilitate_ends r e b s)
ends h b s Sleep p q n d f z = done refl
ends h b s GetResponse p q n d f z = told h b s GetResponse q d (response_ends h s n)
ends h b s Unknown p q n d f z = told h b s Unknown q d (kept refl (inr refl) tt)
