use Rattle.std.proofs.Common.{List, subst}
use Rattle.std.proofs.lemmas.Result.{err_from_is_err_and}
use Rattle.y_tree.specs.Values.{Value}
use Rattle.term_shapes.specs.declared.handles.Term.{Term}
use Rattle.term_table.specs.Functions.{NoneHas}
use Rattle.model_eval.specs.Refusing.{IsDead, IsOther, IsWrong, NoneAgain, RefusesTwice}
use Rattle.model_eval.proofs.Entries.{none_there, model_by, refuses_twice}
use Rattle.model_eval.proofs.model.Model.from_values.Goals as goal

pub returns-in_err-places-clause-refused : goal.returns-in_err-places-clause-refused
returns-in_err-places-clause-refused c =
    let p = err_from_is_err_and c.from_residual.result c.from_residual.ensures.1 in
    let w = c.args.table.now in
    rw (p.1, p.2) (refuses_twice w c.args.values
    (subst (NoneHas (IsDead w)) c.as_slice.ensures c.in_default.ensures.none)
    (subst (NoneHas (IsOther w)) c.as_slice-2.ensures c.in_default-first_other.ensures.none)
    (subst (NoneHas (IsWrong w)) c.as_slice-3.ensures (none_there _ c.in-Ok.wrong c.in_default-wrong.not-Some c.in-Ok.ensures.none))
    c.in_err-places.field-0.0 (subst (λ (m : List (Term × Value)). RefusesTwice m c.in_err-places.field-0.0) c.as_slice-4.ensures c.in_err-places.ensures.refused))

pub returns-clause-model : goal.returns-clause-model
returns-clause-model c =
    let w = c.args.table.now in
    rw (c.values.view_is) (model_by w c.is_table.ensures c.args.values
    (subst (NoneHas (IsDead w)) c.as_slice.ensures c.in_default.ensures.none)
    (subst (NoneHas (IsOther w)) c.as_slice-2.ensures c.in_default-first_other.ensures.none)
    (subst (NoneHas (IsWrong w)) c.as_slice-3.ensures (none_there _ c.in-Ok.wrong c.in_default-wrong.not-Some c.in-Ok.ensures.none))
    (subst NoneAgain c.as_slice-4.ensures c.in_ok-places.ensures.once))
