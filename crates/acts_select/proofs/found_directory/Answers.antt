-- `acts_select::found_directory` meets its contract.
use Rattle.acts_select.specs.Finds.{found_directory}
use Rattle.acts_select.proofs.found_directory.Goals as goal

pub returns : goal.returns
unfolding found_directory
returns c = rw c.directory_response-told.ensures
