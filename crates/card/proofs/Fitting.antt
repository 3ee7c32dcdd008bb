-- What it says that a session fits a head, by name, and which changes of the session keep that.
use Rattle.std.specs.Prelude.{ℕ, Option, Some, None}
use Prim.Native.Nat.{ℕ, ◌-◌, ◌<◌, ◌≤◌}
use mathlib.Core.Path.{◌≡◌, refl, ap, ◌∙◌}
use mathlib.Core.List.{List}
use mathlib.Core.Bool.{true, ◌&&◌}
use lib.Dec.{eqb, ltb}
use lib.ListN.{length, replicate}
use lib.Seq.{drop-append_seam}
use borrow.Author.Tests.{eqb-true, ltb-true, eq-eqb, lt-ltb, le-leb}
use Rattle.card.specs.Bytes.{same}
use Rattle.card.specs.Layout.{index, file}
use Rattle.card.specs.Sessions.{pointed, stands, padded, fits, waits, points, enters, presents}
use Rattle.card.specs.declared.Entry.{Entry}
use Rattle.card.specs.declared.Session.{Session}
use Rattle.card.proofs.Tests.{both, joint, same_self}
use Rattle.card.proofs.Entries.{marked}
use Rattle.card.proofs.Frames.{Same}

pub record Fits (h : List ℕ) (s : Session) : Type 0 where
  pub directory : s.directory < (index h).directories
  pub place : stands h s.directory s.current s.pointer ≡ true
  pub rest : padded s.waiting s.count ≡ true

pub fitting : (h : List ℕ) (s : Session) → fits h s ≡ true → Fits h s
unfolding fits
fitting h s e = record { directory = ltb-true _ _ p.0; place = p.1; rest = q.1 }
  where
    q : ((ltb s.directory (index h).directories && stands h s.directory s.current s.pointer) ≡ true)
        × (padded s.waiting s.count ≡ true)
    q = both _ _ e

    p : (ltb s.directory (index h).directories ≡ true) × (stands h s.directory s.current s.pointer ≡ true)
    p = both _ _ q.0

pub is_fitting : (h : List ℕ) (s : Session) → Fits h s → fits h s ≡ true
unfolding fits
is_fitting h s r = joint (joint (lt-ltb _ _ r.directory) r.place) r.rest

-- A current file is one of the directory's files, and the pointer stands within its records.
pub record OnFile (h : List ℕ) (d f : ℕ) (p : Option ℕ) : Type 0 where
  pub exists : f < (index h).files
  pub home : (file h f).home ≡ d
  pub pointer : pointed (file h f) p ≡ true

pub on-file : (h : List ℕ) (d f : ℕ) (p : Option ℕ) → stands h d (Some f) p ≡ true → OnFile h d f p
unfolding stands
on-file h d f p e =
    let a = both (ltb f (index h).files) _ e in
    let b = both (eqb (file h f).home d) _ a.1 in
    record { exists = ltb-true _ _ a.0; home = eqb-true _ _ b.0; pointer = b.1 }

pub stands_file : (h : List ℕ) (d f : ℕ) (p : Option ℕ) → OnFile h d f p → stands h d (Some f) p ≡ true
unfolding stands
stands_file h d f p r = joint (lt-ltb _ _ r.exists) (joint (eq-eqb _ _ r.home) r.pointer)

pub stands_nothing : (h : List ℕ) (d : ℕ) → stands h d None None ≡ true
unfolding stands
stands_nothing h d = refl

module _ (h : List ℕ) (s : Session) (g : Fits h s) where
  pub fits_waits : (r : List ℕ) → length r ≤ 22 → Fits h (waits r s)
  unfolding padded
  fits_waits r n =
      record {
        directory = g.directory;
        place = g.place;
        rest = joint (le-leb _ _ n)
            (ap (λ l. same l (replicate (22 - length r) 0)) (drop-append_seam r (replicate (22 - length r) 0))
            ∙ same_self (replicate (22 - length r) 0));
      }

  -- what is known of the current file
  pub current_file : (f : ℕ) → s.current ≡ Some f → OnFile h s.directory f s.pointer
  current_file f c = on-file h s.directory f s.pointer (rw c at g.place)

  pub fits_points : (f : ℕ) (p : Option ℕ) → s.current ≡ Some f → pointed (file h f) p ≡ true → Fits h (points p s)
  fits_points f p c e =
      let r = current_file f c in
      record {
        directory = g.directory;
        place = rw c (stands_file h s.directory f p (record { exists = r.exists; home = r.home; pointer = e }));
        rest = g.rest;
      }

  pub fits_presents : (c : ℕ) → Fits h (presents c s)
  fits_presents c = record { directory = g.directory; place = g.place; rest = g.rest }

  pub fits_enters : (d : ℕ) (c : Option ℕ) (p : Option ℕ) → d < (index h).directories → stands h d c p ≡ true → Fits h (enters d c p s)
  fits_enters d c p n e = record { directory = n; place = e; rest = g.rest }

-- a pointer goes neither by status nor by top
pointed_marked : (e : Entry) (status top : ℕ) (p : Option ℕ) → pointed (marked e status top) p ≡ pointed e p
unfolding pointed
pointed_marked e status top None = refl
pointed_marked e status top (Some n) = refl

-- A session that fits a head fits one with the same entries.
module _ {h h' : List ℕ} (m : Same h h') where
  stands_same : (d : ℕ) (c : Option ℕ) (p : Option ℕ) → stands h d c p ≡ true → stands h' d c p ≡ true
  unfolding stands
  stands_same d None None e = refl
  stands_same d None (Some n) e = e
  stands_same d (Some f) p e =
      let r = on-file h d f p e in
      stands_file h' d f p
      (record {
        exists = rw (← m.sections) r.exists;
        home = ap (λ (x : Entry). x.home) (m.files f r.exists) ∙ r.home;
        pointer = ap (λ (x : Entry). pointed x p) (m.files f r.exists) ∙ pointed_marked (file h f) _ _ p ∙ r.pointer;
      })

  pub fits_same : (s : Session) → Fits h s → Fits h' s
  fits_same s g =
      record {
        directory = rw (← m.sections) g.directory;
        place = stands_same s.directory s.current s.pointer g.place;
        rest = g.rest;
      }
