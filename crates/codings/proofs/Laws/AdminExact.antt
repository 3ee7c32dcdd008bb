-- Administrative data: its theorems.
use Prim.Native.Nat.{ℕ, ◌≤◌, ◌<◌}
use mathlib.Core.Path.{◌≡◌, refl, ap, ◌∙◌, sym}
use mathlib.Core.Logic.{◌↔◌}
use mathlib.Core.List.{List, [], ◌∷◌}
use mathlib.Core.Bool.{Bool, true, false, ◌&&◌}
use borrow.Author.Tests.{le-leb, leb-true, leb-false}
use lib.Dec.{leb}
use lib.ListN.{length, get_or}
use Rattle.codings.specs.Answers.{done, judge}
use Rattle.codings.specs.Admin.{Setting, setting, among, is_mode, mnc_in, fitting, decode, changed, encode}
use Rattle.codings.specs.RoundTrips.{AdminCoding}
use Rattle.std.specs.Prelude.{Option, Some, None}
use Rattle.codings.proofs.Laws.Answers.{answer_of, value_of, wrong_value, right, was_done, was_five, was_six, refusal}
use Rattle.codings.proofs.Laws.Exact.{clash}
use Rattle.codings.proofs.Laws.Admin.{short, no_room}
use Rattle.codings.proofs.Laws.AdminTrip.{encoded, undecoded, decoded}

decode_five : (l : List ℕ) → ((decode l).answer ≡ 5) ↔ (length l < 3)
unfolding decode
decode_five l = (λ a. leb-false _ _ (was_five _ _ _ _ a), λ h. sym (ap answer_of (short l h)))

encode_five : (v : Setting) (l : List ℕ) → ((encode v l).answer ≡ 5) ↔ (length l < 3)
unfolding encode
encode_five v l = (λ a. leb-false _ _ (was_five _ _ _ _ a), λ h. sym (ap answer_of (no_room l v.mode v.mnc h)))

-- what was encoded is decoded
was_file : (l : List ℕ) (v : Setting) (old : List ℕ) → encode v old ≡ done l → (decode l).answer ≡ 0
was_file l v old e =
    sym (ap (λ (x : List ℕ). (decode x).answer) (ap value_of e)) ∙ ap answer_of (encoded v old (ap answer_of e))

decode_six : (l : List ℕ) → ((decode l).answer ≡ 6) ↔ ((3 ≤ length l) × ((v : Setting) (old : List ℕ) → ¬ (encode v old ≡ done l)))
unfolding decode
decode_six l = (
  λ s. (leb-true _ _ (was_six _ _ _ _ s).0, λ v old e. clash (decode l) (was_file l v old e) s),
  λ k. go k.0 k.1 (is_mode (get_or l 0 0) && fitting l (mnc_in l)) refl,
)
  where
    go : 3 ≤ length l → ((v : Setting) (old : List ℕ) → ¬ (encode v old ≡ done l)) → (t : Bool)
        → is_mode (get_or l 0 0) && fitting l (mnc_in l) ≡ t
        → (judge (leb 3 (length l)) (is_mode (get_or l 0 0) && fitting l (mnc_in l)) (setting 0 None) (setting (get_or l 0 0) (mnc_in l))).answer ≡ 6
    go h k true e =
        absurd (k (decode l).value l (decoded l (sym (ap answer_of (right (leb 3 (length l)) _ (setting 0 None) (setting (get_or l 0 0) (mnc_in l)) (le-leb _ _ h) e)))))
    go h k false e = sym (ap answer_of (wrong_value (leb 3 (length l)) _ (setting 0 None) (setting (get_or l 0 0) (mnc_in l)) (le-leb _ _ h) e))

-- whether a setting fits hangs on the length alone
same_fit : (l k : List ℕ) → length k ≡ length l → (m : Option ℕ) → fitting k m ≡ fitting l m
unfolding fitting
same_fit l k e None = rw e
same_fit l k e (Some n) = rw e

was_setting : (v : Setting) (l file : List ℕ) → 3 ≤ length l → length file ≡ length l → decode file ≡ done v → (encode v l).answer ≡ 0
unfolding decode encode
was_setting v l file h e d =
    let w = was_done _ _ _ _ (ap answer_of d) in
    let s : setting (get_or file 0 0) (mnc_in file) ≡ v =
    ap value_of (right (leb 3 (length file)) (is_mode (get_or file 0 0) && fitting file (mnc_in file)) (setting 0 None) (setting (get_or file 0 0) (mnc_in file)) w.0 w.1 ∙ d)
    in
    let fit : is_mode v.mode && fitting file v.mnc ≡ true = rw (← s) w.1 in
    sym (ap answer_of (right (leb 3 (length l)) (is_mode v.mode && fitting l v.mnc) l (changed l v.mode v.mnc) (le-leb _ _ h) (rw (← same_fit l file e v.mnc) fit)))

encode_six : (v : Setting) (l : List ℕ)
    → ((encode v l).answer ≡ 6) ↔ ((3 ≤ length l) × ((file : List ℕ) → length file ≡ length l → ¬ (decode file ≡ done v)))
unfolding encode
encode_six v l = (
  λ s. (
    leb-true _ _ (was_six _ _ _ _ s).0,
    λ file e d. clash (encode v l) (was_setting v l file (leb-true _ _ (was_six _ _ _ _ s).0) e d) s,
  ),
  λ k. go k.0 k.1 (is_mode v.mode && fitting l v.mnc) refl,
)
  where
    go : 3 ≤ length l → ((file : List ℕ) → length file ≡ length l → ¬ (decode file ≡ done v)) → (t : Bool)
        → is_mode v.mode && fitting l v.mnc ≡ t
        → (judge (leb 3 (length l)) (is_mode v.mode && fitting l v.mnc) l (changed l v.mode v.mnc)).answer ≡ 6
    go h k true e =
        let z = sym (ap answer_of (right (leb 3 (length l)) (is_mode v.mode && fitting l v.mnc) l (changed l v.mode v.mnc) (le-leb _ _ h) e)) in
        absurd (k (encode v l).value (undecoded v l).long (encoded v l z))
    go h k false e = sym (ap answer_of (wrong_value (leb 3 (length l)) (is_mode v.mode && fitting l v.mnc) l (changed l v.mode v.mnc) (le-leb _ _ h) e))

encode_kept : (v : Setting) (l : List ℕ) → ¬ ((encode v l).answer ≡ 0) → (encode v l).value ≡ l
unfolding encode
encode_kept v l k = refusal _ _ _ _ k

-- three zeros: mode 00, no MNC length
some_file : (decode (0 ∷ 0 ∷ 0 ∷ [])).answer ≡ 0
unfolding decode judge among fitting mnc_in
some_file = refl

pub admin_coding : AdminCoding
admin_coding =
    record {
      back = encoded;
      rest = undecoded;
      forth = decoded;
      file = 0 ∷ 0 ∷ 0 ∷ [];
      some = some_file;
      decode5 = decode_five;
      encode5 = encode_five;
      decode6 = decode_six;
      encode6 = encode_six;
      kept = encode_kept;
    }
