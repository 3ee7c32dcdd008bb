-- The current file, as the code has read it.
use Rattle.std.specs.Prelude.{ℕ, ◌+◌, ◌≤◌, ◌<◌, ◌≡◌, List, length, Some}
use Rattle.card.specs.Access.{rights}
use Rattle.card.specs.Layout.{index, file, file_at, start, head}
use Rattle.card.specs.declared.Session.{Session}
use Rattle.acts.specs.Ready.{Ready}
use Rattle.acts_stand.specs.declared.Place.{Place}
use Rattle.acts_stand.specs.declared.Site.{Site}

-- what the definition says of file f
unfoldable pub site : List ℕ → Session → ℕ → Site
site l s f = record { rights = rights (head l) s; entry = file l f; at = file_at (index l) f }

-- File f is the current one, p is what the definition says of it, and its entry lies inside the image.
pub record Spotted (l : List ℕ) (s : Session) (f : ℕ) (p : Site) : Type 0 where
  pub ready : Ready l s
  pub current : s.current ≡ Some f
  pub among : f < (index l).files
  pub is : p ≡ site l s f
  pub inside : p.at + 14 ≤ length l

-- The same, and the file's bytes are where the definition says: after its entry, and inside the image.
pub record Here (l : List ℕ) (s : Session) (f : ℕ) (p : Place) : Type 0 where
  pub spotted : Spotted l s f (record { rights = p.rights; entry = p.entry; at = p.at })
  pub starts : p.start ≡ start l f
  pub ends : p.end ≡ start l f + (file l f).size
  pub before : p.at + 14 ≤ p.start
  pub filled : p.start ≤ p.end
  pub inside : p.end ≤ length l
