-- The service table: its theorems.
use Prim.Native.Nat.{ℕ, ◌*◌, ◌≤◌, ◌<◌}
use mathlib.Core.Path.{◌≡◌, refl, ap, ◌∙◌, sym}
use mathlib.Core.Logic.{◌↔◌}
use mathlib.Core.List.{List}
use mathlib.Core.Bool.{Bool, true, false, ◌&&◌}
use native.Mathlib.Omega.{arith}
use borrow.Author.Tests.{le-leb, leb-true, leb-false}
use lib.Dec.{leb}
use lib.ListN.{length}
use Rattle.codings.specs.Services.{read, write}
use Rattle.codings.specs.RoundTrips.{ServiceTable}
use Rattle.codings.specs.declared.services.Service.{Service}
use Rattle.codings.proofs.Laws.Answers.{answer_of, was_five, was_six, refusal}
use Rattle.codings.proofs.Laws.Services.{short, none, no_table, no_service, no_place}
use Rattle.codings.proofs.Laws.ServicesTrip.{written, untouched, unchanged, is_written}

module _ (l : List ℕ) (n : ℕ) where
  read_five : ((read l n).answer ≡ 5) ↔ (length l < 2)
  unfolding read
  read_five = (λ a. leb-false _ _ (was_five _ _ _ _ a), λ h. sym (ap answer_of (short l n h)))

  read_six : ((read l n).answer ≡ 6) ↔ ((2 ≤ length l) × (n ≡ 0))
  unfolding read
  read_six = (
    λ a. let w = was_six _ _ _ _ a in (leb-true _ _ w.0, zero_is (leb-false _ _ w.1)),
    λ k. sym (ap answer_of (none l n k.0 k.1)),
  )
    where
      zero_is : n < 1 → n ≡ 0
      zero_is h = omega arith

module _ (l : List ℕ) (n : ℕ) (v : Service) where
  write_five : ((write l n v).answer ≡ 5) ↔ (length l < 2)
  unfolding write
  write_five = (λ a. leb-false _ _ (was_five _ _ _ _ a), λ h. sym (ap answer_of (no_table l n v h)))

  outside : leb 1 n && leb n (4 * length l) ≡ false → ¬ ((1 ≤ n) × (n ≤ 4 * length l))
  outside e k = let z : ◌≡◌ {A = Bool} true false = sym (rw (le-leb 1 n k.0, le-leb n (4 * length l) k.1)) ∙ e in absurd_bool z
    where
      absurd_bool : ◌≡◌ {A = Bool} true false → ⊥
      absurd_bool z = let y : ◌≡◌ {A = ℕ} 0 1 = ap (λ (b : Bool). elim b [ true ↦ 0 | false ↦ 1 ]) z in omega arith

  write_six : ((write l n v).answer ≡ 6) ↔ ((2 ≤ length l) × ¬ ((1 ≤ n) × (n ≤ 4 * length l)))
  unfolding write
  write_six = (
    λ a. let w = was_six _ _ _ _ a in (leb-true _ _ w.0, outside w.1),
    λ k. go k.0 k.1 (leb 1 n) refl (leb n (4 * length l)) refl,
  )
    where
      go : 2 ≤ length l → ¬ ((1 ≤ n) × (n ≤ 4 * length l)) → (s : Bool) → leb 1 n ≡ s → (t : Bool) → leb n (4 * length l) ≡ t
          → (write l n v).answer ≡ 6
      go h k true p true q = absurd (k (leb-true _ _ p, leb-true _ _ q))
      go h k true p false q =
          let one : 1 ≤ n = leb-true _ _ p in
          let far : 4 * length l < n = leb-false _ _ q in
          sym (ap answer_of (no_place l n v h (λ z. omega arith) (omega arith)))
      go h k false p t q = let few : n < 1 = leb-false _ _ p in sym (ap answer_of (no_service l n v h (omega arith)))

  write_kept : ¬ ((write l n v).answer ≡ 0) → (write l n v).value ≡ l
  unfolding write
  write_kept k = refusal _ _ _ _ k

pub service_table : ServiceTable
service_table =
    record {
      back = written;
      others = untouched;
      forth = unchanged;
      some = is_written;
      read5 = read_five;
      write5 = write_five;
      read6 = read_six;
      write6 = write_six;
      kept = write_kept;
    }
