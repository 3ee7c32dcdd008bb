-- `fields::bytes::Bytes::new` meets its contract.
use Rattle.fields.proofs.Laws.Bytes.{none}
use Rattle.fields.proofs.bytes.Bytes.new.Goals as goal

pub invariant_of-result : goal.invariant_of-result
invariant_of-result g c = none g.row.N
