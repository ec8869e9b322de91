use Rattle.std.proofs.Common.{◌≡◌, ℕ, true, Some}
use Rattle.y_tree.specs.declared.values.FunValue.{FunValue}
use Rattle.y_tree.specs.Values.{is_flat_function}
use Rattle.y_tree.specs.Order.{is_formed}
use Rattle.y_tree.specs.Plain.{plain_function}
use Rattle.update_axioms.specs.Shown.{found}
use Rattle.update_axioms.proofs.tests.functions_of.Given as goal

abbrev pub invariant-loop-function : goal.invariant-loop-function
invariant-loop-function l = (f : ℕ) (g : FunValue) → found l.made f ≡ Some g → (is_formed (plain_function g) ≡ true) × (is_flat_function (plain_function g) ≡ true)
