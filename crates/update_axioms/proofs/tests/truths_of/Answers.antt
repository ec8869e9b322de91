use Rattle.std.proofs.Common.{◌≡◌, ◌∷◌, [], Some, inl, inr, subst, true}
use Rattle.std.specs.Prelude.{slice_get}
use Rattle.y_tree.specs.declared.values.Value.{Value}
use Rattle.y_tree.specs.Sorts.{boolean}
use Rattle.y_tree.specs.Values.{has_sort}
use Rattle.y_tree.specs.Plain.{plain_value}
use Rattle.update_axioms.proofs.Ranges.{at_append}
use Rattle.update_axioms.proofs.Ordered.{only_item}
use Rattle.update_axioms.proofs.tests.truths_of.Goals as goal

pub loop-value-preserved : goal.loop-value-preserved
loop-value-preserved c = λ n w h.
    elim (at_append c.loop-value.values (c.truth.result ∷ []) n w (subst (λ vs. slice_get vs n ≡ Some w) c.in_ok-push.ensures.ok h)) [
      | inl old ↦ c.loop-value.invariant n w old
      | inr new ↦ subst (λ (x : Value). has_sort (plain_value x) boolean ≡ true) (only_item c.truth.result new.0 w new.2) c.truth.ensures
    ]
