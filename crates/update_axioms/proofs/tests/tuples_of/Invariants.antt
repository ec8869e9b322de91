use Rattle.std.proofs.Common.{◌≡◌, ℕ, true, List, Some}
use Rattle.std.specs.Prelude.{slice_get}
use Rattle.y_tree.specs.declared.values.Value.{Value}
use Rattle.y_tree.specs.Values.{are_flat}
use Rattle.y_tree.specs.Plain.{plain_values}
use Rattle.update_axioms.proofs.tests.tuples_of.Given as goal

abbrev pub invariant-loop-key : goal.invariant-loop-key
invariant-loop-key l = (t : ℕ) (key : List Value) → slice_get l.tuples t ≡ Some key → are_flat (plain_values key) ≡ true
