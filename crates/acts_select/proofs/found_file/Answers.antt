-- `acts_select::found_file` meets its contract.
use Rattle.acts_select.proofs.Finding.{file_found}
use Rattle.acts_select.proofs.found_file.Goals as goal

pub returns : goal.returns
returns c = file_found _ _ _ _ _ _ _ c.args.head.now.head.indexed.is c.file-e.ensures c.first_pointer-pointer.ensures c.file_response-told.ensures
