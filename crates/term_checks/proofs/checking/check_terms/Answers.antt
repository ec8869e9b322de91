use Rattle.std.proofs.Common.{◌≡◌, ◌∙◌, ◌++◌, ℕ, Some, sym, ap, subst}
use Rattle.std.specs.Prelude.{slice_get, IfSome}
use Rattle.y_tree.specs.Sorts.{boolean}
use Rattle.term_shapes.specs.declared.handles.Term.{Term}
use Rattle.term_table.specs.Checking.{HasSort}
use Rattle.term_orders.specs.Orders.{IsIn}
use Rattle.term_checks.proofs.Starts.{roots_live, ready_of, boolean_of, other_found, none_found}
use Rattle.term_checks.proofs.checking.check_terms.Goals as goal

pub order_of-requires : goal.order_of-requires
order_of-requires c = roots_live c.args.table.now c.args.formulas.now c.args.assumed.now c.requires.formulas c.requires.assumptions

pub returns-then-is_some-clause-refused : goal.returns-then-is_some-clause-refused
returns-then-is_some-clause-refused c =
    let w = c.args.table.now in
    let order = c.in-Ok.order.keys in
    let some = subst (λ z. IfSome c.first_other.result (λ t. IsIn z t × (HasSort w t boolean → ⊥))) c.as_slice.ensures.keys c.first_other.ensures.some in
    other_found w (c.args.formulas.now ++ c.args.assumed.now) order c.in-Ok.ensures c.is_table.ensures c.first_other.result (sym c.is_some.ensures ∙ c.if-is_some.true) some

pub decided-requires-clause-ready : goal.decided-requires-clause-ready
decided-requires-clause-ready c =
    let w = c.args.table.now in
    let sorts = none_found c.first_other.result ((i : ℕ) (t : Term) → slice_get c.as_slice.result.now i ≡ Some t → HasSort w t boolean) (sym c.is_some.ensures ∙ c.if-is_some.false) c.first_other.ensures.none in
    ready_of w c.args.formulas.now c.args.assumed.now c.requires.formulas c.requires.assumptions c.in-Ok.order.keys c.in-Ok.ensures (λ i t at. sorts i t (ap (λ z. slice_get z i) c.as_slice.ensures.keys ∙ at))

pub returns-in-Ok-decided-clause-boolean : goal.returns-in-Ok-decided-clause-boolean
returns-in-Ok-decided-clause-boolean c =
    let w = c.args.table.now in
    let sorts = none_found c.first_other.result ((i : ℕ) (t : Term) → slice_get c.as_slice.result.now i ≡ Some t → HasSort w t boolean) (sym c.is_some.ensures ∙ c.if-is_some.false) c.first_other.ensures.none in
    boolean_of w (c.args.formulas.now ++ c.args.assumed.now) c.in-Ok.order.keys c.in-Ok.ensures (λ i t at. sorts i t (ap (λ z. slice_get z i) c.as_slice.ensures.keys ∙ at))
