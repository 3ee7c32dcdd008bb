-- The commands on a code: what they leave in its entry is sound again, and the session goes on fitting.
use Prim.Native.Nat.{ℕ, ◌+◌, ◌-◌, ◌%◌, ◌≤◌}
use mathlib.Core.Path.{◌≡◌, refl, ◌∙◌}
use mathlib.Core.List.{List, [], ◌∷◌}
use mathlib.Core.Bool.{Bool, false, not}
use native.Mathlib.Omega.{arith}
use lib.Dec.{eqb}
use lib.ListN.{length, take, drop, set, length-set, length-drop}
use lib.Seq.{get_or-set_same, get_or-set_other}
use borrow.Author.Tests.{eqb-true, eqb-false, not-false}
use Rattle.card.specs.Bytes.{same}
use Rattle.card.specs.Layout.{code_entry}
use Rattle.card.specs.Sessions.{dropped}
use Rattle.card.specs.Answers.{Coded, first, ◌says◌}
use Rattle.card.specs.Codes.{Key, chv, unblocking, value, attempts_left, attempts_at, ready, renewed, tested, verify, change, disable, enable, unblock}
use Rattle.card.specs.declared.Session.{Session}
use Rattle.card.proofs.Parts.{length_splice, length_part}
use Rattle.card.proofs.Fitting.{Fits, fits_presents}
use Rattle.card.proofs.Writes.{SoundEntry}
use Rattle.card.proofs.Refusals.{guarded, choice, passed}

pub record Tested (h : List ℕ) (c : ℕ) (k : Coded) : Type 0 where
  pub entry : SoundEntry c k.entry
  pub session : Fits h k.given.session

renewed_sound : (c : ℕ) (e : List ℕ) (flags unblocks : ℕ) (new : List ℕ) → length e ≡ 20 → length new ≡ 8 → flags % 64 ≤ 1 - c → unblocks ≤ 10
    → SoundEntry c (renewed e flags unblocks new)
unfolding code_entry
renewed_sound c e flags unblocks new l n a u =
    record {
      long = length_splice e 0 12 (flags ∷ 3 ∷ unblocks ∷ 0 ∷ new) (omega arith) (omega arith) ∙ l;
      code = record { flags = a; attempts = omega arith; unblocks = u; spare = refl };
    }

fallen_sound : (c : ℕ) (e : List ℕ) (key : Key) → SoundEntry c e → SoundEntry c (set e (attempts_at key) (attempts_left key (code_entry e 0) - 1))
unfolding code_entry
fallen_sound c e chv r =
    let l = r.long in
    let k = r.code in
    record {
      long = length-set e 1 _ ∙ l;
      code =
          record {
            flags = rw (get_or-set_other e 1 0 _ 0 (λ z. omega arith)) k.flags;
            attempts = rw (get_or-set_same e 1 _ 0 (omega arith)) (omega (arith, k.attempts));
            unblocks = rw (get_or-set_other e 1 2 _ 0 (λ z. omega arith)) k.unblocks;
            spare = rw (get_or-set_other e 1 3 _ 0 (λ z. omega arith)) k.spare;
          };
    }
fallen_sound c e unblocking r =
    let l = r.long in
    let k = r.code in
    record {
      long = length-set e 2 _ ∙ l;
      code =
          record {
            flags = rw (get_or-set_other e 2 0 _ 0 (λ z. omega arith)) k.flags;
            attempts = rw (get_or-set_other e 2 1 _ 0 (λ z. omega arith)) k.attempts;
            unblocks = rw (get_or-set_same e 2 _ 0 (omega arith)) (omega (arith, k.unblocks));
            spare = rw (get_or-set_other e 2 3 _ 0 (λ z. omega arith)) k.spare;
          };
    }

module _ (h : List ℕ) (s : Session) (g : Fits h (dropped s)) (c : ℕ) (e : List ℕ) (r : SoundEntry c e) where
  pub tested_keeps : (x : Coded) (key : Key) (contradicts : Bool) (given renewal : List ℕ) → x ≡ tested e s c key contradicts given renewal
      → (contradicts ≡ false → SoundEntry c renewal)
      → Tested h c x
  unfolding tested
  tested_keeps x key contradicts given renewal q k =
      guarded (Tested h c) x _ _ _ q (λ w. record { entry = r; session = g })
      (λ p.
      choice (Tested h c) (same (value key e) given) _ _
      (λ t. record { entry = k (contradicted p); session = fits_presents h (dropped s) g c })
      (λ t. record { entry = fallen_sound c e key r; session = g }))
    where
      contradicted : first (not (ready key (code_entry e 0)) says 0x9802 ∷ eqb (attempts_left key (code_entry e 0)) 0 says 0x9840 ∷ contradicts says 0x9808 ∷ []) ≡ 0
          → contradicts ≡ false
      contradicted p =
          let p1 = passed (not (ready key (code_entry e 0))) _ _ p refl in
          let p2 = passed (eqb (attempts_left key (code_entry e 0)) 0) _ _ p1.1 refl in
          (passed contradicts _ _ p2.1 refl).0

  value_length : length (value chv e) ≡ 8
  value_length = length_part e 4 8 (omega (arith, r.long))

  pub verify_keeps : (given : List ℕ) → Tested h c (verify e s c given)
  unfolding verify
  verify_keeps given =
      tested_keeps (verify e s c given) chv _ given _ refl
      (λ u. renewed_sound c e _ _ (value chv e) r.long value_length r.code.flags r.code.unblocks)

  pub change_keeps : (given : List ℕ) → length given ≡ 16 → Tested h c (change e s c given)
  unfolding change
  change_keeps given z =
      tested_keeps (change e s c given) chv _ (take 8 given) _ refl
      (λ u.
      renewed_sound c e _ _ (drop 8 given) r.long (simp length-drop (omega arith)) r.code.flags r.code.unblocks)

  pub disable_keeps : (given : List ℕ) → c ≡ 0 → Tested h c (disable e s c given)
  unfolding disable
  disable_keeps given z =
      tested_keeps (disable e s c given) chv _ given _ refl
      (λ u.
      let k = r.code.flags in
      let v = eqb-false ((code_entry e 0).flags % 2) 1 u in
      renewed_sound c e ((code_entry e 0).flags + 1) _ (value chv e) r.long value_length (omega arith) r.code.unblocks)

  pub enable_keeps : (given : List ℕ) → Tested h c (enable e s c given)
  unfolding enable
  enable_keeps given =
      tested_keeps (enable e s c given) chv _ given _ refl
      (λ u.
      let k = r.code.flags in
      let v = eqb-true ((code_entry e 0).flags % 2) 1 (not-false _ u) in
      renewed_sound c e ((code_entry e 0).flags - 1) _ (value chv e) r.long value_length (omega arith) r.code.unblocks)

  pub unblock_keeps : (given : List ℕ) → length given ≡ 16 → Tested h c (unblock e s c given)
  unfolding unblock
  unblock_keeps given z =
      tested_keeps (unblock e s c given) unblocking _ (take 8 given) _ refl
      (λ u.
      let k = r.code.flags in
      renewed_sound c e ((code_entry e 0).flags - (code_entry e 0).flags % 2) 10 (drop 8 given) r.long (simp length-drop (omega arith)) (omega arith) (omega arith))
