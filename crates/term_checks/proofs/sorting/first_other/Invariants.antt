use Rattle.std.proofs.Common.{◌≡◌, ◌<◌, ℕ, Some}
use Rattle.std.specs.Prelude.{slice_get}
use Rattle.y_tree.specs.Sorts.{boolean}
use Rattle.term_shapes.specs.declared.handles.Term.{Term}
use Rattle.term_table.specs.Checking.{HasSort}
use Rattle.term_checks.proofs.sorting.first_other.Given as goal

abbrev pub invariant-loop-term : goal.invariant-loop-term
invariant-loop-term l = (j : ℕ) (t : Term) → j < l.term-index → slice_get l.terms j ≡ Some t → HasSort l.table t boolean
