-- `fields::bytes::Bytes::text` meets its contract.
use Rattle.fields.proofs.Laws.Bytes.{text_counts, is_text}
use Rattle.fields.proofs.bytes.Bytes.text.Goals as goal

pub invariant_of-result : goal.invariant_of-result
invariant_of-result g c =
    text_counts g.row.N c.args.limit _ c.args.field.now _ c.put_text-count.ensures.value c.requires c.put_text-count.ensures.out_after

pub returns : goal.returns
returns g c =
    is_text g.row.N c.args.limit _ c.args.field.now _ c.put_text-count.ensures.value c.requires c.put_text-count.ensures.out_after
