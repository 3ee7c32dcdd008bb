-- Where the current file stands: laws of what is read of it.
use Rattle.std.specs.Prelude.{ℕ, Option, Some}
use Prim.Native.Nat.{ℕ, ◌+◌, ◌*◌, ◌≤◌, ◌<◌}
use mathlib.Core.Path.{◌≡◌, refl, sym, ap, ◌∙◌}
use mathlib.Core.List.{List}
use mathlib.Core.Bool.{Bool, true, ◌&&◌}
use native.Mathlib.Omega.{arith}
use native.Mathlib.Numerals.{add-one}
use lib.Dec.{eqb, ltb}
use lib.ListN.{length}
use borrow.Author.Tests.{ltb-true}
use Rattle.card.specs.Access.{rights}
use Rattle.card.specs.Bytes.{word}
use Rattle.card.specs.Images.{Image}
use Rattle.card.specs.Layout.{index, file, file_entry, file_at, start, sizes, head}
use Rattle.card.specs.Sessions.{fits, stands, pointed, padded}
use Rattle.card.specs.declared.Entry.{Entry}
use Rattle.card.specs.declared.Index.{Index}
use Rattle.card.specs.declared.Rights.{Rights}
use Rattle.card.specs.declared.Session.{Session}
use Rattle.card.proofs.Frames.{placed}
use Rattle.card.proofs.Heads.{index_head, code_head, file_head}
use Rattle.card.proofs.Images as card
use Rattle.card.proofs.Places.{file_inside}
use Rattle.card.proofs.Tests.{both}
use Rattle.shelf.proofs.Heading.{file_read}
use Rattle.acts.specs.Ready.{Ready}
use Rattle.acts_stand.specs.Here.{Spotted, Here, site}
use Rattle.acts_stand.specs.declared.Site.{Site}

-- the sizes of the files, summed one after the other
pub no_sizes : (l : List ℕ) → 0 ≡ sizes l 0
unfolding sizes
no_sizes l = refl

module _ (l : List ℕ) (i : Index) (is : i ≡ index l) where
  pub next_size : (g sum size : ℕ) → sum ≡ sizes l g → size ≡ word l (i.table + 14 * g + 10) → sum + size ≡ sizes l (g + 1)
  unfolding sizes file file_entry
  next_size g sum size p q = simp (add-one, p, q, is)

  pub all_sizes : (f g sum : ℕ) → g ≤ f → f ≤ g → sum ≡ sizes l g → i.store + sum ≡ start l f
  unfolding start
  all_sizes f g sum a b e = let same : g ≡ f = omega arith in rw (is, e, same)

-- the head has the whole's rights
rights_head : (l : List ℕ) → Image l → (s : Session) → rights (head l) s ≡ rights l s
unfolding rights
rights_head l m s = let n = m.codes in simp (code_head l 0 (omega arith), code_head l 1 (omega arith))

-- the current file is one of the image's, and its pointer stands within it
module _ {l : List ℕ} {s : Session} (r : Ready l s) (f : ℕ) (c : s.current ≡ Some f) where
  standing : stands (head l) s.directory (Some f) s.pointer ≡ true
  unfolding fits
  standing =
      let d : Bool = ltb s.directory (index (head l)).directories in
      let t : Bool = stands (head l) s.directory s.current s.pointer in
      ap (λ (x : Option ℕ). stands (head l) s.directory x s.pointer) (sym c)
      ∙ (both d t (both (d && t) (padded s.waiting s.count) r.session).0).1

  pub among : f < (index l).files
  unfolding stands
  among =
      let t : Bool = ltb f (index (head l)).files in
      let u : Bool = eqb (file (head l) f).home s.directory && pointed (file (head l) f) s.pointer in
      rw (← index_head l) (ltb-true _ _ (both t u standing).0)

  pub points_within : pointed (file l f) s.pointer ≡ true
  unfolding stands
  points_within =
      let t : Bool = ltb f (index (head l)).files in
      let u : Bool = eqb (file (head l) f).home s.directory in
      let v : Bool = pointed (file (head l) f) s.pointer in
      rw (← file_head l f among) (both u v (both t (u && v) standing).1).1

  pub few : f < 200
  few = let n = among in let m = (card.image l r.image).files in omega arith

  pub start_inside : start l f ≤ length l
  start_inside = let w = card.inside l (card.image l r.image) f among in omega arith

  -- the file's entry is all there, and so are those before it
  pub entry_inside : (i : Index) → i ≡ index l → i.table + 14 * f + 14 ≤ length l
  entry_inside i is = rw is (file_inside l (card.image l r.image) f among)

  -- what was read of the current file's entry
  pub spotted : (i : Index) → i ≡ index l → (rights' : Rights) (e : Entry)
      → rights' ≡ rights l s
      → e ≡ file_entry l (i.table + 14 * f)
      → Spotted l s f (record { rights = rights'; entry = e; at = i.table + 14 * f })
  unfolding site
  spotted i is rights' e p q =
      record {
        ready = r;
        current = c;
        among = among;
        is = simp (p, file_read l i is f e q, is, rights_head l (card.image l r.image) s);
        inside = entry_inside i is;
      }

-- what was read of the current file, with the place of its bytes
pub here : {l : List ℕ} {s : Session} {f : ℕ} {p : Site} → Spotted l s f p → (start' size : ℕ)
    → start' ≡ start l f
    → size ≡ p.entry.size
    → Here l s f (record { rights = p.rights; entry = p.entry; at = p.at; start = start'; end = start' + size })
unfolding site start
here {l} {s} {f} {p} h start' size t u =
    let z = placed l in
    let n = h.among in
    let whole : size ≡ (file l f).size = u ∙ ap (λ (x : Site). x.entry.size) h.is in
    let at : p.at ≡ file_at (index l) f = ap (λ (x : Site). x.at) h.is in
    record {
      spotted = h;
      starts = t;
      ends = rw (t, whole);
      before = rw (at, t) (omega arith);
      filled = omega arith;
      inside = rw (whole, t) (card.inside l (card.image l h.ready.image) f n);
    }
