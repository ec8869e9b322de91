use Rattle.std.proofs.Common.{◌≡◌, ℕ, ◌<◌, Some}
use Rattle.std.specs.Prelude.{slice_get}
use Rattle.y_tree.specs.Sorts.{boolean}
use Rattle.term_shapes.specs.declared.handles.Term.{Term}
use Rattle.term_table.specs.Checking.{HasSort}
use Rattle.context_stack.proofs.judging.first_other.Given as goal

abbrev pub invariant-loop-i : goal.invariant-loop-i
invariant-loop-i l = (k : ℕ) (u : Term) → k < l.i → slice_get l.terms k ≡ Some u → HasSort l.table u boolean
