-- `shelf_check::check::codes_sound` meets its contract: a law for each way out.
use mathlib.Core.Path.{ap}
use mathlib.Core.Bool.{not}
use native.Mathlib.Omega.{arith}
use Rattle.card.specs.Layout.{code}
use Rattle.shelf_check.proofs.Sections.{codes_inside, codes_fail, codes_then}
use Rattle.shelf_check.proofs.check.codes_sound.Goals as goal

pub returns-then-not-code_rules : goal.returns-then-not-code_rules
unfolding code
returns-then-not-code_rules c = codes_fail _ _ c.args.s.now.whole _ _ c.code.ensures c.code_rules.ensures (ap not c.if-not-code_rules.true)

pub code-requires-2 : goal.code-requires-2
code-requires-2 c = let p = codes_inside _ _ c.args.s.now.whole in omega arith

pub returns : goal.returns
unfolding code
returns c = codes_then _ _ c.args.s.now.whole _ _ _ _ c.code.ensures c.code_rules.ensures (ap not c.if-not-code_rules.false) c.code-2.ensures c.code_rules-2.ensures
