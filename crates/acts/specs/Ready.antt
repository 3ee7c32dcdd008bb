-- What is tested before a command is carried out.
use Rattle.std.specs.Prelude.{◌≡◌, List, true, ℕ}
use Rattle.card.specs.Layout.{head}
use Rattle.card.specs.Shelf.{is_image}
use Rattle.card.specs.Sessions.{fits}
use Rattle.card.specs.declared.Session.{Session}

-- An image, and a session that fits it.
pub record Ready (l : List ℕ) (s : Session) : Type 0 where
  pub image : is_image l ≡ true
  pub session : fits (head l) s ≡ true
