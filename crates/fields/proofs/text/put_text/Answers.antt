-- `fields::text::put_text` meets its contract.
use Rattle.fields.proofs.Laws.Text.{counts, places}
use Rattle.fields.proofs.text.put_text.Goals as goal

pub returns : goal.returns
returns c =
    record {
      value = counts _ _ _ c.lead-count.ensures.0;
      out_after = places _ _ _ c.lead-count.ensures.0 _ _ c.place.ensures;
    }
