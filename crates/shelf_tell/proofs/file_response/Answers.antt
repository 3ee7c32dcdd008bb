-- `shelf_tell::file_response` meets its contract: byte by byte.
use borrow.Author.Rules.{rules}
use Rattle.card.specs.Select.{file_response}
use Rattle.shelf_tell.proofs.Told.{word_bytes}
use Rattle.shelf_tell.proofs.file_response.Goals as goal

pub returns : goal.returns
unfolding file_response
returns c =
    let s = word_bytes c.args.e.size (search rules) _ c.to_be_bytes.ensures in
    let i = word_bytes c.args.e.identifier (search rules) _ c.to_be_bytes-2.ensures in
    cc
