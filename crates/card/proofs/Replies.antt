-- What a command finds and must keep; and each reply that leaves the card as it is has a session that fits.
use Rattle.std.specs.Prelude.{Some, None}
use Prim.Native.Nat.{ℕ, ◌+◌, ◌/◌, ◌%◌, ◌<◌, ◌≤◌}
use mathlib.Core.Path.{◌≡◌, refl}
use mathlib.Core.List.{List, [], ◌∷◌}
use mathlib.Core.Bool.{Bool, true, false, ◌||◌, not}
use native.Mathlib.Omega.{arith}
use lib.Dec.{eqb, ltb}
use lib.ListN.{length}
use borrow.Author.Tests.{eqb-true, eqb-false, ltb-true, ne_eqb, not-true, not-false}
use Rattle.card.specs.Bytes.{find}
use Rattle.card.specs.Layout.{index, file, transparent, linear, cyclic, records}
use Rattle.card.specs.Images.{SoundFile, SoundHead}
use Rattle.card.specs.Sessions.{pointed, waits, dropped, points, enters}
use Rattle.card.specs.Answers.{Reply, reply, refusal, Effect, effect, first, ◌says◌}
use Rattle.card.specs.Access.{shared}
use Rattle.card.specs.Select.{select, tell_status, get_response, directory_response, file_response, named, find_directory, find_file, first_pointer}
use Rattle.card.specs.Binary.{read_binary}
use Rattle.card.specs.Records.{read_record, of_record, moved}
use Rattle.card.specs.Seek.{seek_record, sought}
use Rattle.card.specs.declared.Entry.{Entry}
use Rattle.card.specs.declared.Rights.{Rights}
use Rattle.card.specs.declared.Session.{Session}
use Rattle.card.specs.declared.Act.{Act}
use Rattle.card.specs.declared.Act.TheVariants.{Read as reading, Seek as seeking}
use Rattle.card.proofs.Tests.{both}
use Rattle.card.proofs.Fitting.{Fits, stands_file, stands_nothing, fits_waits, current_file, fits_points, fits_enters}
use Rattle.card.proofs.Writes.{Kept, kept_refl}
use Rattle.card.proofs.Refusals.{guarded, choice, passed, Granted, granted}
use Rattle.card.proofs.Ranges.{find_holds, cyclic_rows, linear_rows, pointer_le, pointer_fits, pointer_none, chosen_le, sought_le}

-- what a record command that is not refused has shown
pub record_granted : (r : Rights) (e : Entry) (a : Act) (suits : Bool) (k n : ℕ) → first (of_record r e a suits k n) ≡ 0
    → (suits ≡ true) × (n ≡ e.width) × (0 < k)
unfolding of_record
record_granted r e a suits k n p = (g.suits, eqb-true _ _ (not-false _ q.0), pos)
  where
    g : Granted r e a suits (not (eqb n e.width) says (0x6700 + e.width) ∷ eqb k 0 says 0x9402 ∷ [])
    g = granted r e a suits _ p

    q : (not (eqb n e.width) ≡ false) × (first (eqb k 0 says 0x9402 ∷ []) ≡ 0)
    q = passed _ _ _ g.more (ne_eqb (0x6700 + e.width) 0 (λ z. omega arith))

    pos : 0 < k
    pos = let z = eqb-false k 0 (passed _ _ _ q.1 refl).0 in omega arith

-- A head, the current file's bytes and a session before a command.
pub record Ready (h b : List ℕ) (s : Session) : Type 0 where
  pub head : SoundHead h
  pub fits : Fits h s
  pub bytes : (f : ℕ) → s.current ≡ Some f → length b ≡ (file h f).size

pub record Keeps (h b : List ℕ) (e : Effect) : Type 0 where
  pub head : Kept h e.head
  pub contents : length e.contents ≡ length b
  pub session : Fits h e.given.session

-- A reply whose session fits.
abbrev pub Told : List ℕ → Reply → Type 0
Told h r = Fits h r.session

module _ (h b : List ℕ) (s : Session) (m : Ready h b s) where
  pub dropped_fits : Fits h (dropped s)
  dropped_fits = fits_waits h s m.fits [] (omega arith)

  pub here : (f : ℕ) → s.current ≡ Some f → f < (index h).files
  here f c = (current_file h s m.fits f c).exists

  pub rules : (f : ℕ) → s.current ≡ Some f → SoundFile h f (file h f)
  rules f c = m.head.file f (here f c)

  -- a command that leaves head and bytes
  pub stays : (r : Reply) → Told h r → Keeps h b (effect h b r)
  stays r k = record { head = kept_refl h m.head; contents = refl; session = k }

  pub refused : (w : ℕ) → Keeps h b (effect h b (refusal s w))
  refused w = stays (refusal s w) dropped_fits

  pub pointing : (t : Session) → Fits h t → (f k : ℕ) → t.current ≡ Some f → transparent (file h f) ≡ false → 0 < k → k ≤ records (file h f)
      → Fits h (points (Some k) t)
  pointing t g f k c n a z = fits_points h t g f (Some k) c (pointer_fits (file h f) k n a z)

  pub pointer_in : (f : ℕ) → s.current ≡ Some f → (k : ℕ) → s.pointer ≡ Some k → k ≤ records (file h f)
  pointer_in f c = pointer_le (file h f) s.pointer (current_file h s m.fits f c).pointer

  directory_fits : (d : ℕ) → d < (index h).directories → Fits h (waits (directory_response h d) (enters d None None s))
  unfolding directory_response
  directory_fits d n =
      fits_waits h _ (fits_enters h s m.fits d None None n (stands_nothing h d)) (directory_response h d) (omega arith)

  first_fits : (f : ℕ) → f < (index h).files → pointed (file h f) (first_pointer (file h f)) ≡ true
  first_fits f n =
      choice (λ p. pointed (file h f) p ≡ true) (cyclic (file h f)) (Some 1) None
      (λ c. let t = cyclic_rows (file h f) c in pointer_fits (file h f) 1 t (omega arith) ((m.head.file f n).recorded t).some)
      (λ c. pointer_none (file h f))

  file_fits : (f : ℕ) → f < (index h).files → (file h f).home ≡ s.directory
      → Fits h (waits (file_response (file h f)) (enters s.directory (Some f) (first_pointer (file h f)) s))
  unfolding file_response
  file_fits f n u =
      fits_waits h _
      (fits_enters h s m.fits s.directory (Some f) _ m.fits.directory
      (stands_file h s.directory f _ (record { exists = n; home = u; pointer = first_fits f n })))
      (file_response (file h f)) (omega arith)

  found_home : (id : ℕ) → find_file h s.directory id < (index h).files → (file h (find_file h s.directory id)).home ≡ s.directory
  unfolding find_file named
  found_home id n =
      let test : ℕ → Bool = λ f. named s.directory id (file h f) in
      eqb-true _ _ (both (eqb (file h (find (index h).files test)).home s.directory) _ (find_holds (index h).files test n)).0

  pub select_fits : (id : ℕ) → Told h (select h s id)
  unfolding select
  select_fits id =
      choice (Told h) (ltb (find_directory h s.directory id) (index h).directories) _ _
      (λ t. directory_fits (find_directory h s.directory id) (ltb-true _ _ t))
      (λ t.
      choice (Told h) (ltb (find_file h s.directory id) (index h).files) _ _
      (λ u. let n = ltb-true _ _ u in file_fits (find_file h s.directory id) n (found_home id n))
      (λ u. dropped_fits))

  pub tell_status_fits : (n : ℕ) → Told h (tell_status h s n)
  unfolding tell_status
  tell_status_fits n = dropped_fits

  pub get_response_fits : (n : ℕ) → Told h (get_response s n)
  unfolding get_response
  get_response_fits n =
      choice (Told h) (eqb s.count 0) _ _ (λ t. dropped_fits)
      (λ t. choice (Told h) (eqb n 0 || ltb s.count n) _ _ (λ u. m.fits) (λ u. dropped_fits))

  -- A command on the current file.
  module _ (f : ℕ) (c : s.current ≡ Some f) (r : Rights) where
    pub read_binary_fits : (at n : ℕ) → Told h (read_binary r (file h f) b s at n)
    unfolding read_binary
    read_binary_fits at n = guarded (Told h) (read_binary r (file h f) b s at n) _ _ _ refl (λ w. dropped_fits) (λ p. dropped_fits)

    pub moved_fits : (mode k : ℕ) → transparent (file h f) ≡ false → 0 < k → k ≤ records (file h f) → Fits h (moved mode k (dropped s))
    moved_fits mode k t a z =
        choice (Fits h) (eqb mode 4) _ _ (λ u. dropped_fits) (λ u. pointing (dropped s) dropped_fits f k c t a z)

    pub read_record_fits : (number mode n : ℕ) → Told h (read_record r (file h f) b s number mode n)
    unfolding read_record
    read_record_fits number mode n =
        guarded (Told h) (read_record r (file h f) b s number mode n) _ _ _ refl (λ w. dropped_fits)
        (λ p.
        let g = record_granted r (file h f) reading _ _ _ p in
        let t = not-true _ g.0 in
        moved_fits mode _ t g.2 (chosen_le (file h f) ((rules f c).recorded t).some number mode s.pointer (pointer_in f c)))

    pub seek_record_fits : (mode : ℕ) (pattern : List ℕ) → Told h (seek_record r (file h f) b s mode pattern)
    unfolding seek_record
    seek_record_fits mode pattern = guarded (Told h) (seek_record r (file h f) b s mode pattern) _ _ _ refl (λ w. dropped_fits) go
      where
        found : ℕ
        found = sought b (file h f).width (records (file h f)) pattern (mode % 16) s.pointer

        go : first
            (shared r (file h f) seeking (linear (file h f))
            (ltb (file h f).width (length pattern) says (0x6700 + (file h f).width) ∷ eqb found 0 says 0x9404 ∷ []))
            ≡ 0
            → Told h
            (elim (eqb (mode / 16) 0) [
              | true ↦ reply [] 0x9000 (points (Some found) (dropped s))
              | false ↦ reply [] 0x9f01 (waits (found ∷ []) (points (Some found) s))
            ])
        go p =
            let g = granted r (file h f) seeking (linear (file h f)) _ p in
            let q = passed _ _ _ g.more (ne_eqb (0x6700 + (file h f).width) 0 (λ z. omega arith)) in
            let z = eqb-false found 0 (passed _ _ _ q.1 refl).0 in
            let pos : 0 < found = omega arith in
            let t = linear_rows (file h f) g.suits in
            let n = sought_le b (file h f).width (records (file h f)) pattern (mode % 16) s.pointer (pointer_in f c) in
            choice (Told h) (eqb (mode / 16) 0) _ _ (λ u. pointing (dropped s) dropped_fits f found c t pos n)
            (λ u. fits_waits h _ (pointing s m.fits f found c t pos n) (found ∷ []) (omega arith))
