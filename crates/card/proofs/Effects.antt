-- Each command keeps the head sound, the number of the file's bytes, and a session that fits.
use Rattle.std.specs.Prelude.{Some}
use Prim.Native.Nat.{ℕ, ◌+◌, ◌-◌, ◌*◌, ◌%◌, ◌<◌, ◌≤◌}
use mathlib.Core.Path.{◌≡◌, refl, sym, ap, ◌∙◌}
use mathlib.Core.List.{List, [], ◌++◌}
use mathlib.Core.Bool.{true, false, ◌||◌, not}
use native.Mathlib.Omega.{arith}
use native.Mathlib.Nat.{mod-lt}
use lib.Dec.{eqb}
use lib.ListN.{length, length-append}
use borrow.Author.Tests.{eqb-true, eqb-false, ltb-false, not-true, not-false}
use Rattle.card.specs.Bytes.{part, splice}
use Rattle.card.specs.Layout.{code_at, file, transparent, cyclic, counter, records}
use Rattle.card.specs.Images.{SoundStatus, SoundTop}
use Rattle.card.specs.Sessions.{dropped, points}
use Rattle.card.specs.Answers.{Reply, refusal, Coded, Marked, Written, effect, first}
use Rattle.card.specs.Binary.{binary, update_binary}
use Rattle.card.specs.Records.{update_record, record_at, pushed, updatable}
use Rattle.card.specs.Increase.{increase_by, amount, amount_bytes}
use Rattle.card.specs.Marks.{invalidate, rehabilitate}
use Rattle.card.specs.Forms.{both as these, formed, sent}
use Rattle.card.specs.Play.{act, marks, writes, by_code, wanted}
use Rattle.card.specs.declared.Rights.{Rights}
use Rattle.card.specs.declared.Session.{Session}
use Rattle.card.specs.declared.Act.TheVariants.{Update as updating, Increase as counting, Invalidate as invalidating, Rehabilitate as rehabilitating}
use Rattle.card.specs.declared.Instruction.{Instruction}
use Rattle.card.specs.declared.Instruction.TheVariants.{Select, Status, ReadBinary, UpdateBinary, ReadRecord, UpdateRecord, Seek, Increase, Verify, Change, Disable, Enable, Unblock, Invalidate, Rehabilitate, Sleep, GetResponse, Unknown}
use Rattle.card.proofs.Tests.{both, apart}
use Rattle.card.proofs.Parts.{length_splice}
use Rattle.card.proofs.Images.{counter_sound}
use Rattle.card.proofs.Fitting.{Fits, fits_waits}
use Rattle.card.proofs.Writes.{kept_status, kept_top, SoundEntry, kept_entry, entry_sound}
use Rattle.card.proofs.Refusals.{guarded, choice, of_file, passed, granted}
use Rattle.card.proofs.Forms.{fixed, numbered, minus_one, halved}
use Rattle.card.proofs.Codes.{Tested, verify_keeps, change_keeps, disable_keeps, enable_keeps, unblock_keeps}
use Rattle.card.proofs.Ranges.{cyclic_rows, record_in, chosen_le}
use Rattle.card.proofs.Replies.{record_granted, Ready, Keeps, Told, dropped_fits, here, rules, stays, refused, pointing, pointer_in, select_fits, tell_status_fits, get_response_fits, read_binary_fits, moved_fits, read_record_fits, seek_record_fits}

-- What a command on file f keeps, by what it may write.
record Wrote (h b : List ℕ) (f : ℕ) (w : Written) : Type 0 where
  pub top : SoundTop (file h f) w.top
  pub contents : length w.contents ≡ length b
  pub session : Fits h w.given.session

record Changed (h : List ℕ) (m : Marked) : Type 0 where
  pub status : SoundStatus m.status
  pub session : Fits h m.given.session

-- The commands on a file.
module _ (h b : List ℕ) (s : Session) (m : Ready h b s) (f : ℕ) (c : s.current ≡ Some f) (r : Rights) where
  abbrev W : Written → Type 0
  W w = Wrote h b f w

  top_now : SoundTop (file h f) (file h f).top
  top_now = (rules h b s m f c).top

  not_written : (w : Written) → w.top ≡ (file h f).top → w.contents ≡ b → w.given.session ≡ dropped s → W w
  not_written w t x g = record { top = rw t top_now; contents = ap length x; session = rw g (dropped_fits h b s m) }

  update_binary_keeps : (at : ℕ) (new : List ℕ) → W (update_binary r (file h f) b s at new)
  unfolding update_binary binary
  update_binary_keeps at new =
      guarded W (update_binary r (file h f) b s at new) _ _ _ refl (λ w. not_written _ refl refl refl)
      (λ p.
      let g = granted r (file h f) updating (transparent (file h f)) _ p in
      let n : at + length new ≤ (file h f).size = ltb-false _ _ (passed _ _ _ g.more refl).0 in
      let z = m.bytes f c in
      record { top = top_now; contents = length_splice b at (length new) new refl (omega arith); session = dropped_fits h b s m })

  -- bytes of a record written
  record_length : (k : ℕ) (new : List ℕ) → transparent (file h f) ≡ false → length new ≡ (file h f).width
      → length (splice b (record_at (file h f) k) (file h f).width new) ≡ length b
  record_length k new t n =
      let i = record_in (file h f) k ((rules h b s m f c).recorded t).some in
      let z = m.bytes f c in
      length_splice b (record_at (file h f) k) (file h f).width new n (omega (arith, i, z))

  pushed_keeps : (new : List ℕ) (a : Reply) → cyclic (file h f) ≡ true → length new ≡ (file h f).width → Told h a
      → W (pushed (file h f) b new a)
  pushed_keeps new a y n k =
      record {
        top =
            record {
              round =
                  λ t.
                  mod-lt ((file h f).top + records (file h f) - 1) {m = records (file h f)}
                  ((rules h b s m f c).recorded (cyclic_rows (file h f) y)).some;
              flat = λ t. apart y t;
            };
        contents = record_length (records (file h f)) new (cyclic_rows (file h f) y) n;
        session = k;
      }

  first_record : (t : Session) → Fits h t → t.current ≡ Some f → cyclic (file h f) ≡ true → Fits h (points (Some 1) t)
  first_record t g c' y =
      let z = cyclic_rows (file h f) y in
      pointing h b s m t g f 1 c' z (omega arith) ((rules h b s m f c).recorded z).some

  update_record_keeps : (number mode : ℕ) (new : List ℕ) → W (update_record r (file h f) b s number mode new)
  unfolding update_record
  update_record_keeps number mode new =
      guarded W (update_record r (file h f) b s number mode new) _ _ _ refl (λ w. not_written _ refl refl refl)
      (λ p.
      let g = record_granted r (file h f) updating (updatable mode (file h f)) _ _ p in
      let t = not-true _ (both (not (transparent (file h f))) (not (cyclic (file h f)) || eqb mode 3) g.0).0 in
      choice W (cyclic (file h f)) _ _
      (λ y. pushed_keeps new _ y g.1 (first_record (dropped s) (dropped_fits h b s m) c y))
      (λ y.
      record {
        top = top_now;
        contents = record_length _ new t g.1;
        session =
            moved_fits h b s m f c r mode _ t g.2
            (chosen_le (file h f) ((rules h b s m f c).recorded t).some number mode s.pointer (pointer_in h b s m f c));
      }))

  increase_by_keeps : (added : List ℕ) → length added ≡ 3 → W (increase_by r (file h f) b s added)
  unfolding increase_by
  increase_by_keeps added n =
      let sum = amount b (record_at (file h f) 1) + amount added 0 in
      let six : length (amount_bytes sum ++ added) ≤ 22 = rw length-append (omega arith) in
      guarded W (increase_by r (file h f) b s added) _ _ _ refl (λ w. not_written _ refl refl refl)
      (λ p.
      let g = granted r (file h f) counting (counter (file h f)) _ p in
      let k = counter_sound (rules h b s m f c) g.suits in
      pushed_keeps (amount_bytes sum) _ k.0 (sym k.1)
      (fits_waits h _ (first_record s m.fits c k.0) (amount_bytes sum ++ added) six))

  not_marked : (w : Marked) → w.status ≡ (file h f).status → w.given.session ≡ dropped s → Changed h w
  not_marked w t g = record { status = rw t (rules h b s m f c).status; session = rw g (dropped_fits h b s m) }

  invalidate_keeps : Changed h (invalidate r (file h f) s)
  unfolding invalidate
  invalidate_keeps =
      guarded (Changed h) (invalidate r (file h f) s) _ _ _ refl (λ w. not_marked _ refl refl)
      (λ p.
      let g = granted r (file h f) invalidating true [] p in
      let v = eqb-true ((file h f).status % 2) 1 (not-false _ g.clear) in
      let k = (rules h b s m f c).status in
      record { status = record { marks = omega (arith, k.marks); small = omega (arith, k.small) }; session = dropped_fits h b s m })

  rehabilitate_keeps : Changed h (rehabilitate r (file h f) s)
  unfolding rehabilitate
  rehabilitate_keeps =
      guarded (Changed h) (rehabilitate r (file h f) s) _ _ _ refl (λ w. not_marked _ refl refl)
      (λ p.
      let g = granted r (file h f) rehabilitating true [] p in
      let v = eqb-false ((file h f).status % 2) 1 g.clear in
      let k = (rules h b s m f c).status in
      record { status = record { marks = omega (arith, k.marks); small = omega (arith, k.small) }; session = dropped_fits h b s m })

-- Every command.
module _ (h b : List ℕ) (s : Session) (m : Ready h b s) where
  changed : (f : ℕ) → s.current ≡ Some f → (w : Marked) → Changed h w → Keeps h b (marks h b f w)
  changed f c w k =
      record { head = kept_status h m.head f _ (here h b s m f c) k.status; contents = refl; session = k.session }

  wrote : (f : ℕ) → s.current ≡ Some f → (w : Written) → Wrote h b f w → Keeps h b (writes h b f w)
  wrote f c w k =
      record { head = kept_top h m.head f _ (here h b s m f c) k.top; contents = k.contents; session = k.session }

  coded : (c : ℕ) → c < 2 → (k : Coded) → Tested h c k → Keeps h b (by_code h b c (λ e c. k))
  coded c n k t = record { head = kept_entry h m.head c n k.entry t.entry; contents = refl; session = t.session }

  now : (c : ℕ) → c < 2 → SoundEntry c (part h (code_at c) 20)
  now c n = entry_sound h m.head c n

  fileless : Keeps h b (effect h b (refusal s 0x9400))
  fileless = refused h b s m 0x9400

  pub keeps : (i : Instruction) (p q n : ℕ) (d : List ℕ) → first (formed i p q n) ≡ 0 → length d ≡ sent i n
      → Keeps h b (act i h b s p q n d)
  unfolding act formed sent
  keeps Select p q n d f z = stays h b s m _ (select_fits h b s m _)
  keeps Status p q n d f z = stays h b s m _ (tell_status_fits h b s m n)
  keeps ReadBinary p q n d f z = of_file (Keeps h b) h s.current _ _ fileless (λ f c. stays h b s m _ (read_binary_fits h b s m f c _ (p * 256 + q) (wanted n)))
  keeps UpdateBinary p q n d f z = of_file (Keeps h b) h s.current _ _ fileless (λ f c. wrote f c _ (update_binary_keeps h b s m f c _ (p * 256 + q) d))
  keeps ReadRecord p q n d f z = of_file (Keeps h b) h s.current _ _ fileless (λ f c. stays h b s m _ (read_record_fits h b s m f c _ p q n))
  keeps UpdateRecord p q n d f z = of_file (Keeps h b) h s.current _ _ fileless (λ f c. wrote f c _ (update_record_keeps h b s m f c _ p q d))
  keeps Seek p q n d f z = of_file (Keeps h b) h s.current _ _ fileless (λ f c. stays h b s m _ (seek_record_fits h b s m f c _ q d))
  keeps Increase p q n d f z =
      let g = fixed (these 0 0 p q) 3 0x6703 n f refl in
      of_file (Keeps h b) h s.current _ _ fileless (λ f c. wrote f c _ (increase_by_keeps h b s m f c _ d (z ∙ g.1)))
  keeps Verify p q n d f z =
      let c = minus_one q (numbered p q n 1 2 8 0x6708 f refl).0 in
      coded (q - 1) c _ (verify_keeps h s (dropped_fits h b s m) (q - 1) _ (now _ c) d)
  keeps Change p q n d f z =
      let g = numbered p q n 1 2 16 0x6710 f refl in
      let c = minus_one q g.0 in
      coded (q - 1) c _ (change_keeps h s (dropped_fits h b s m) (q - 1) _ (now _ c) d (z ∙ g.1))
  keeps Disable p q n d f z = coded 0 (omega arith) _ (disable_keeps h s (dropped_fits h b s m) 0 _ (now 0 (omega arith)) d refl)
  keeps Enable p q n d f z = coded 0 (omega arith) _ (enable_keeps h s (dropped_fits h b s m) 0 _ (now 0 (omega arith)) d)
  keeps Unblock p q n d f z =
      let g = numbered p q n 0 2 16 0x6710 f refl in
      let c = halved q g.0 in
      coded _ c _ (unblock_keeps h s (dropped_fits h b s m) _ _ (now _ c) d (z ∙ g.1))
  keeps Invalidate p q n d f z = of_file (Keeps h b) h s.current _ _ fileless (λ f c. changed f c _ (invalidate_keeps h b s m f c _))
  keeps Rehabilitate p q n d f z = of_file (Keeps h b) h s.current _ _ fileless (λ f c. changed f c _ (rehabilitate_keeps h b s m f c _))
  keeps Sleep p q n d f z = stays h b s m _ (dropped_fits h b s m)
  keeps GetResponse p q n d f z = stays h b s m _ (get_response_fits h b s m n)
  keeps Unknown p q n d f z = refused h b s m 0x6d00
