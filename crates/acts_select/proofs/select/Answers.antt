-- `acts_select::select` meets its contract: the head that was lent is the image's, and each way out is one law.
use mathlib.Core.Path.{◌∙◌}
use native.Mathlib.Omega.{arith}
use Rattle.acts_select.proofs.Finding.{directory_readable, file_readable, here, to_directory, to_file, to_nothing}
use Rattle.acts_select.proofs.select.Goals as goal
use Rattle.acts_select.proofs.select.Goals.{in-Some, in_default+in-Some-find_file}

pub find_directory-requires : goal.find_directory-requires
find_directory-requires c = here c.requires _ _ c.of-head.result.head c.of-head.ensures

pub returns-in_default-find_file : goal.returns-in_default-find_file
returns-in_default-find_file c = to_nothing c.requires _ _ c.of-head.result.head c.of-head.ensures _ _
    c.in_default.ensures
    c.in_default-find_file.ensures
    (rw c.from.ensures at c.refusal.ensures)

pub overflow_add-end : goal.overflow_add-end
overflow_add-end c = elim c.match-find_directory.branch [
  | in-Some w ↦ omega (arith, (directory_readable _ _ _ (w.found-is ∙ w.found_directory-found.ensures)).early)
  | in_default+in-Some-find_file w ↦ omega (arith, (file_readable _ _ _ _ (w.found-is ∙ w.found_file.ensures)).early)
]

pub slice_bounds-selected-end : goal.slice_bounds-selected-end
slice_bounds-selected-end c = elim c.match-find_directory.branch [
  | in-Some w ↦ (directory_readable _ _ _ (w.found-is ∙ w.found_directory-found.ensures)).inside
  | in_default+in-Some-find_file w ↦ (file_readable _ _ _ _ (w.found-is ∙ w.found_file.ensures)).inside
]

pub selected-requires : goal.selected-requires
selected-requires c = elim c.match-find_directory.branch [
  | in-Some w ↦ let r = directory_readable _ _ _ (w.found-is ∙ w.found_directory-found.ensures) in (r.all, r.few)
  | in_default+in-Some-find_file w ↦ let r = file_readable _ _ _ _ (w.found-is ∙ w.found_file.ensures) in (r.all, r.few)
]

pub returns : goal.returns
returns c = let r = c.requires in
    let k = c.of-head.result.head in
    let lent = c.of-head.ensures in
    elim c.match-find_directory.branch [
      | in-Some w ↦ to_directory r _ _ k lent _ _ _ _ w.in-Some.ensures.0 w.in-Some.ensures.1 (w.found-is ∙ w.found_directory-found.ensures) c.selected.ensures
      | in_default+in-Some-find_file w ↦
          to_file r _ _ k lent _ _ _ _ w.in_default.ensures w.in-Some-find_file.ensures.0 w.in-Some-find_file.ensures.1
          (w.found-is ∙ w.found_file.ensures) c.selected.ensures
    ]
