-- `shelf_tell::directory_response` meets its contract: byte by byte, and the counters are small since the head is an image's.
use borrow.Author.Rules.{rules}
use native.Mathlib.Omega.{arith}
use Rattle.shelf_tell.proofs.Told.{word_bytes, codes_inside, counters, directory_told}
use Rattle.shelf_tell.proofs.directory_response.Goals as goal

pub code-chv2-requires : goal.code-chv2-requires
code-chv2-requires c = omega (arith, codes_inside _ _ c.args.head.now.head)

pub code_status-requires : goal.code_status-requires
code_status-requires c = counters _ _ c.args.head.now.head 0 _ c.code-chv1.ensures (omega arith)

pub unblock_status-requires : goal.unblock_status-requires
unblock_status-requires c = counters _ _ c.args.head.now.head 0 _ c.code-chv1.ensures (omega arith)

pub code_status-requires-2 : goal.code_status-requires-2
code_status-requires-2 c = counters _ _ c.args.head.now.head 1 _ c.code-chv2.ensures (omega arith)

pub unblock_status-requires-2 : goal.unblock_status-requires-2
unblock_status-requires-2 c = counters _ _ c.args.head.now.head 1 _ c.code-chv2.ensures (omega arith)

pub returns : goal.returns
returns c =
    let m = word_bytes c.directory-e.result.memory (search rules) _ c.to_be_bytes.ensures in
    let n = word_bytes c.directory-e.result.identifier (search rules) _ c.to_be_bytes-2.ensures in
    directory_told _ _ _ _ _ _ _ _ _ _ _ _ _ _ _ _ _
    c.directory-e.ensures
    c.code-chv1.ensures
    c.code-chv2.ensures
    m.high
    m.low
    n.high
    n.low
    c.directory_type.ensures
    c.characteristics.ensures
    c.children-below.ensures
    c.members-inside.ensures
    c.code_status.ensures
    c.unblock_status.ensures
    c.code_status-2.ensures
    c.unblock_status-2.ensures
