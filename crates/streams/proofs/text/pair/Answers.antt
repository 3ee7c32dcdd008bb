-- A byte's digits are an entry of the table.
use Rattle.std.proofs.Common.{◌≡◌, ◌+◌, ◌-◌, ◌*◌, arith}
use Rattle.std.proofs.lemmas.Str.{IsCharBoundary-from_ascii}
use Rattle.streams.specs.declared.text.TheConstants.{PAIRS}
use Rattle.streams.proofs.Pairs.{table_entry, table_ascii}
use Rattle.streams.proofs.text.pair.Goals as goal

pub range-requires-clause-start_boundary : goal.range-requires-clause-start_boundary
range-requires-clause-start_boundary c = λ _. IsCharBoundary-from_ascii PAIRS.now _ table_ascii (omega arith)

pub range-requires-clause-end_boundary : goal.range-requires-clause-end_boundary
range-requires-clause-end_boundary c = IsCharBoundary-from_ascii PAIRS.now _ table_ascii (omega arith)

pub returns : goal.returns
returns c =
    let two : 2 * c.from-at.result + 2 - 2 * c.from-at.result ≡ 2 = omega arith in
    rw (c.range.ensures.value, two, c.from-at.ensures) (table_entry c.args.byte (omega arith))
