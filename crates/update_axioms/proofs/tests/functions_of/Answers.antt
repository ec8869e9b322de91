use Rattle.std.proofs.Common.{inl, inr, Some, subst, ◌≡◌, true}
use Rattle.y_tree.specs.declared.values.FunValue.{FunValue}
use Rattle.y_tree.specs.Values.{is_flat_function}
use Rattle.y_tree.specs.Order.{is_formed}
use Rattle.y_tree.specs.Plain.{plain_function}
use Rattle.update_axioms.specs.Shown.{found}
use Rattle.update_axioms.proofs.Judging.{found_either}
use Rattle.update_axioms.proofs.tests.functions_of.Goals as goal

pub loop-function-preserved : goal.loop-function-preserved
loop-function-preserved c = λ f g h.
    elim (found_either c.loop-function.made _ c.in_ok-f.f f g (subst (λ xs. found xs f ≡ Some g) c.in_ok-push.ensures.ok h)) [
      | inl old ↦ c.loop-function.invariant f g old
      | inr new ↦ subst (λ (x : FunValue). (is_formed (plain_function x) ≡ true) × (is_flat_function (plain_function x) ≡ true)) new.1 (c.in_ok-f.ensures.formed, c.in_ok-f.ensures.flat)
    ]

pub returns-clause-flat : goal.returns-clause-flat
returns-clause-flat c = λ f g h. (c.loop-function.invariant f g h).1
