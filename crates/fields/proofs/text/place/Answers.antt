-- `fields::text::place` meets its contract: what it copies is the text.
use Prim.Native.Nat.{ℕ}
use mathlib.Core.Path.{ap, ◌∙◌}
use mathlib.Core.List.{List}
use borrow.Author.Rules.{rules}
use Rattle.std.proofs.lemmas.Slice.{overwrites}
use Rattle.fields.specs.Text.{placed}
use Rattle.fields.proofs.Laws.Fields.{placing}
use Rattle.fields.proofs.text.place.Goals as goal

pub returns : goal.returns
returns c = placing c.args.filler c.args.from c.args.out.now _ _ _ (search rules) c.copy_from_slice.ensures.after
    (c.fill.ensures.after (λ y e. e))
    ∙ ap (λ (t : List ℕ). placed c.args.filler c.args.from c.args.out.now t) (search (rules, overwrites))
