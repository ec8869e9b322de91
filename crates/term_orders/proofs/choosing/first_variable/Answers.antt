use Rattle.std.proofs.Common.{◌≡◌, ℕ, ◌∷◌, [], Some, sym, subst, List}
use Rattle.std.specs.Prelude.{slice_get}
use Rattle.term_shapes.specs.declared.handles.Term.{Term}
use Rattle.term_orders.specs.Orders.{IsIn, IsOrder, IsBelow, IsVariable}
use Rattle.term_orders.proofs.Rounds.{none_below, one_root, one_live, if_some, if_none}
use Rattle.term_orders.proofs.choosing.first_variable.Goals as goal

pub subterms-requires : goal.subterms-requires
subterms-requires c = one_live c.args.table.now c.args.t c.requires

pub returns-clause-variable : goal.returns-clause-variable
returns-clause-variable c =
    if_some (λ v. IsIn c.as_slice.result.now v × IsVariable c.args.table.now v) (λ v. IsVariable c.args.table.now v) c.variable_among.result (λ v h. h.1) c.variable_among.ensures.some

pub returns-clause-below : goal.returns-clause-below
returns-clause-below c =
    let o : IsOrder c.args.table.now (c.args.t ∷ []) c.as_slice.result.now = subst (IsOrder c.args.table.now (c.args.t ∷ [])) (sym c.as_slice.ensures) c.in_ok-order.ensures in
    if_some (λ v. IsIn c.as_slice.result.now v × IsVariable c.args.table.now v) (λ v. IsBelow c.args.table.now v c.args.t) c.variable_among.result (λ v h. one_root c.args.table.now c.as_slice.result.now c.args.t v o h.0) c.variable_among.ensures.some

pub returns-clause-none : goal.returns-clause-none
returns-clause-none c =
    let o : IsOrder c.args.table.now (c.args.t ∷ []) c.as_slice.result.now = subst (IsOrder c.args.table.now (c.args.t ∷ [])) (sym c.as_slice.ensures) c.in_ok-order.ensures in
    if_none ((i : ℕ) (u : Term) → slice_get c.as_slice.result.now i ≡ Some u → IsVariable c.args.table.now u → ⊥) ((v : Term) → IsBelow c.args.table.now v c.args.t → IsVariable c.args.table.now v → ⊥) c.variable_among.result (λ h. none_below c.args.table.now c.as_slice.result.now c.args.t o h) c.variable_among.ensures.none
