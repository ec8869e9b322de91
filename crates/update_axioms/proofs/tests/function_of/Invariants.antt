use Rattle.std.proofs.Common.{◌≡◌, true}
use Rattle.y_tree.specs.Values.{is_flat_function}
use Rattle.y_tree.specs.Order.{is_formed}
use Rattle.y_tree.specs.Plain.{plain_function}
use Rattle.update_axioms.proofs.tests.function_of.Given as goal

abbrev pub invariant-loop-entry : goal.invariant-loop-entry
invariant-loop-entry l = (is_formed (plain_function l.f) ≡ true) × (is_flat_function (plain_function l.f) ≡ true)
