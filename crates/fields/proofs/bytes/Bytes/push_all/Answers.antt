-- `fields::bytes::Bytes::push_all` meets its contract.
use Rattle.fields.proofs.Laws.Bytes.{more_count, is_more}
use Rattle.fields.proofs.bytes.Bytes.push_all.Goals as goal

pub invariant_of-self : goal.invariant_of-self
invariant_of-self g c =
    more_count g.row.N _ _ _ _ _ c.self.told c.self.invariant.0 c.self.view_is c.requires c.place.ensures

pub returns : goal.returns
returns g c = is_more g.row.N _ _ _ _ _ c.self.told c.self.invariant.0 c.self.view_is c.requires c.place.ensures
