use Rattle.std.proofs.Common.{◌≡◌, ◌∷◌, [], List, Some, inl, inr, subst, true}
use Rattle.std.specs.Prelude.{slice_get}
use Rattle.y_tree.specs.declared.values.Value.{Value}
use Rattle.y_tree.specs.Values.{are_flat}
use Rattle.y_tree.specs.Plain.{plain_values}
use Rattle.update_axioms.proofs.Ranges.{at_append}
use Rattle.update_axioms.proofs.Ordered.{only_item}
use Rattle.update_axioms.proofs.tests.tuples_of.Goals as goal

pub loop-key-preserved : goal.loop-key-preserved
loop-key-preserved c = λ t key h.
    elim (at_append c.loop-key.tuples (c.in_ok-key_of.field-0 ∷ []) t key (subst (λ ts. slice_get ts t ≡ Some key) c.in_ok-push.ensures.ok h)) [
      | inl old ↦ c.loop-key.invariant t key old
      | inr new ↦ subst (λ (k : List Value). are_flat (plain_values k) ≡ true) (only_item c.in_ok-key_of.field-0 new.0 key new.2) c.in_ok-key_of.ensures
    ]
