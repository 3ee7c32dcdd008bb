-- `acts_select::status` meets its contract: the head that was lent is the image's.
use Rattle.acts_select.proofs.Finding.{here, status}
use Rattle.acts_select.proofs.status.Goals as goal

pub directory_response-told-requires : goal.directory_response-told-requires
directory_response-told-requires c = here c.requires.ready _ _ c.of-head.result.head c.of-head.ensures

pub returns : goal.returns
returns c = status c.requires.ready _ _ c.of-head.result.head c.of-head.ensures _ _ _ _ _
    c.directory_response-told.ensures
    c.tell_status.ensures
