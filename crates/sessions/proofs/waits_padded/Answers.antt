-- `sessions::waits_padded` meets its contract.
use Rattle.sessions.proofs.Waiting.{awaits_padded}
use Rattle.sessions.proofs.waits_padded.Goals as goal

pub returns : goal.returns
returns c = awaits_padded c.args.s c.args.r.now _ c.copy_from_slice.ensures.after c.args.n
