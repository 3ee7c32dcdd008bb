-- `runs::tested` meets its contract: by what the examination found.
use Rattle.runs.proofs.Tests.{value, ready}
use Rattle.runs.proofs.tested.Goals as goal

pub returns : goal.returns
returns c = let e = rw c.examine.ensures at c.is_ok.ensures.value in record { value = value _ _ e; ready = ready _ _ e }
