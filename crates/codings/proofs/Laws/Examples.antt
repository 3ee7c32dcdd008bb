-- The worked examples hold, by computation.
use mathlib.Core.Path.{refl}
use Rattle.codings.specs.Answers.{judge}
use Rattle.fields.specs.Halves.{halves, joined}
use Rattle.fields.specs.Text.{lead, filled, padded, text, closed, within}
use Rattle.codings.specs.Iccid as iccids
use Rattle.codings.specs.Imsi as imsis
use Rattle.codings.specs.Network as networks
use Rattle.codings.specs.Services as tables
use Rattle.codings.specs.Spn as names
use Rattle.codings.specs.Admin as admins
use Rattle.codings.specs.Examples.{Examples}

-- one row and all the others
infixr 5 ◌and◌
◌and◌ : {A B : Type 0} → A → B → A × B
a and b = (a, b)

pub hold : Examples
unfolding judge halves joined lead filled padded text closed within iccids.numbered iccids.decode iccids.writable iccids.encode imsis.mark imsis.odd imsis.even imsis.digits_in imsis.numbered imsis.decode imsis.writable imsis.encode networks.named networks.network networks.entry_in networks.decode networks.writable networks.bytes networks.encode tables.unit tables.pair_of tables.said tables.says tables.changed tables.read tables.write names.bits names.decode names.writable names.encode admins.among admins.mnc_in admins.fitting admins.decode admins.changed admins.encode
hold =
    (refl, refl)
    and (refl, refl)
    and (refl, refl)
    and refl
    and refl
    and refl
    and (refl, refl)
    and (refl, refl)
    and (refl, refl)
    and (refl, refl)
    and (refl, refl)
    and refl
    and refl
    and refl
    and (refl, refl)
    and (refl, refl)
    and refl
    and refl
    and refl
    and refl
    and refl
    and refl
    and (refl, refl)
    and refl
    and refl
    and (refl, refl)
    and (refl, refl)
    and (refl, refl)
    and refl
    and refl
    and refl
    and tt
