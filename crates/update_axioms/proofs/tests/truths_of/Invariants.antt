use Rattle.std.proofs.Common.{◌≡◌, ℕ, true, Some}
use Rattle.std.specs.Prelude.{slice_get}
use Rattle.y_tree.specs.declared.values.Value.{Value}
use Rattle.y_tree.specs.Sorts.{boolean}
use Rattle.y_tree.specs.Values.{has_sort}
use Rattle.y_tree.specs.Plain.{plain_value}
use Rattle.update_axioms.proofs.tests.truths_of.Given as goal

abbrev pub invariant-loop-value : goal.invariant-loop-value
invariant-loop-value l = (n : ℕ) (w : Value) → slice_get l.values n ≡ Some w → has_sort (plain_value w) boolean ≡ true
