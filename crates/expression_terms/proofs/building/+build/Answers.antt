use Rattle.std.proofs.Common.{◌≡◌, Some, rules, arith, ◌+◌, ◌++◌, refl, sym, ap, subst, ◌∙◌, map, length, length-append}
use Rattle.std.specs.Prelude.{IfOk, IfErr}
use Rattle.std.proofs.lemmas.Result.{err_from_is_err_and}
use Rattle.std.proofs.lemmas.List.{take_all}
use Rattle.term_shapes.specs.declared.shapes.Shape.TheVariants as shape
use Rattle.term_table.specs.World.{HasShape}
use Rattle.yices_grammar.specs.Commands.{exprs, binds}
use Rattle.yices_commands.specs.Plain.{plain, plain_bind}
use Rattle.expression_terms.specs.Bound.{binding_names}
use Rattle.expression_terms.specs.Building.{named_in, term_named, with_bound, IsMissing}
use Rattle.expression_terms.specs.Outcomes.{Builds, BuildsEach, Stops, StopsEach}
use Rattle.expression_terms.proofs.PlainLaws.{plain_true, plain_false, plain_name, plain_op, plain_let, plain_apply, plain_update, left_at, none_left, bound_at, names_same, names_count}
use Rattle.expression_terms.proofs.Unbuilt.{unbuilt_refused}
use Rattle.expression_terms.proofs.Sizes.{size_call, size_let, size_apply, size_update, size_at, bound_size_at}
use Rattle.expression_terms.proofs.Outcomes.{contexts_same, contexts_on, adds_none, adds_on, names_on, paired_back, same_built, same_refused, builds_true, builds_false, name_found, name_missing, stops_kept, call_stops_arguments, call_builds, call_stops_call, apply_stops_function, apply_stops_arguments, apply_stops, update_stops_function, update_stops_arguments, update_stops_value, update_stops, first_start, first_all, first_more, first_stops, first_kept, bound_start, bound_all, bound_more, bound_stops, bound_kept, repeated_at, once_by, let_stops_memory, let_stops_twice, let_stops_kept, let_stops_bound, let_built, let_refused}
use Rattle.expression_terms.specs.Growth.{all_trees, bound_trees}
use Rattle.expression_terms.specs.Keeping.{AddsParts, StaysWithin, BoundStayWithin}
use Rattle.expression_terms.proofs.Keeping.{parts_none, parts_call, stays_true, stays_false, stays_call, first_stay_start, bound_stay_start}
use Rattle.expression_terms.proofs.Kept.{only_wider, no_parts, parts_of_any, name_stays, same_parts, same_stays, first_parts, first_within, first_all_within, bound_parts, bound_within, bound_all_within, let_parts, let_stays}
use Rattle.expression_terms.proofs.building.+build.Goals as goal

pub build_one-returns-in-True-clause-built : goal.build_one-returns-in-True-clause-built
build_one-returns-in-True-clause-built t c =
    builds_true (named_in c.args.env.now.table c.args.names.now) c.args.env.now (plain c.args.expr.now) _ _ (plain_true _ c.in-True.is) (subst (λ w. HasShape w c.true_term.result shape.True) c.table.ensures c.true_term.ensures)

pub build_one-returns-in-False-clause-built : goal.build_one-returns-in-False-clause-built
build_one-returns-in-False-clause-built t c =
    builds_false (named_in c.args.env.now.table c.args.names.now) c.args.env.now (plain c.args.expr.now) _ _ (plain_false _ c.in-False.is) (subst (λ w. HasShape w c.false_term.result shape.False) c.table-in-False.ensures c.false_term.ensures)

pub build_one-returns-in-Name-clause-built : goal.build_one-returns-in-Name-clause-built
build_one-returns-in-Name-clause-built t c =
    name_found (named_in c.args.env.now.table c.args.names.now) c.args.env.now (plain c.args.expr.now) _ _ c.find.result (plain_name _ _ c.in-Name.is) (subst (λ w. IfOk c.find.result (λ t. term_named (named_in w c.args.names.now) c.in-Name.name ≡ Some t)) c.table-in-Name.ensures c.find.ensures.found)

pub build_one-returns-in-Name-clause-refused : goal.build_one-returns-in-Name-clause-refused
build_one-returns-in-Name-clause-refused t c =
    name_missing (named_in c.args.env.now.table c.args.names.now) c.args.env.now (plain c.args.expr.now) _ _ c.find.result (plain_name _ _ c.in-Name.is) (subst (λ w. IfErr c.find.result (IsMissing (named_in w c.args.names.now) c.args.expr.now.place c.in-Name.name)) c.table-in-Name.ensures c.find.ensures.missing)

pub build_one-returns-in-Op-clause-built : goal.build_one-returns-in-Op-clause-built
build_one-returns-in-Op-clause-built t c =
    same_built (named_in c.args.env.now.table c.args.names.now) c.args.env.now c.build_call.new.env (plain c.args.expr.now) _ c.build_call.result (plain_op c.args.expr.now c.in-Op.word c.in-Op.arguments c.as_slice.result.now c.in-Op.is c.as_slice.ensures) c.build_call.ensures.built

pub build_one-returns-in-Op-clause-refused : goal.build_one-returns-in-Op-clause-refused
build_one-returns-in-Op-clause-refused t c =
    same_refused (named_in c.args.env.now.table c.args.names.now) c.args.env.now c.build_call.new.env (plain c.args.expr.now) _ c.build_call.result (plain_op c.args.expr.now c.in-Op.word c.in-Op.arguments c.as_slice.result.now c.in-Op.is c.as_slice.ensures) c.build_call.ensures.refused

pub build_one-build_call-requires : goal.build_one-build_call-requires
build_one-build_call-requires t c =
    (omega (arith, c.decreases, size_call c.args.expr.now c.in-Op.word c.in-Op.arguments c.as_slice.result.now c.in-Op.is c.as_slice.ensures), tt)

pub build_one-returns-in-Let-clause-built : goal.build_one-returns-in-Let-clause-built
build_one-returns-in-Let-clause-built t c =
    same_built (named_in c.args.env.now.table c.args.names.now) c.args.env.now c.build_let.new.env (plain c.args.expr.now) _ c.build_let.result (plain_let c.args.expr.now c.in-Let.binds c.as_slice-in-Let.result.now c.in-Let.body c.get.result.now c.in-Let.is c.as_slice-in-Let.ensures c.get.ensures) c.build_let.ensures.built

pub build_one-returns-in-Let-clause-refused : goal.build_one-returns-in-Let-clause-refused
build_one-returns-in-Let-clause-refused t c =
    same_refused (named_in c.args.env.now.table c.args.names.now) c.args.env.now c.build_let.new.env (plain c.args.expr.now) _ c.build_let.result (plain_let c.args.expr.now c.in-Let.binds c.as_slice-in-Let.result.now c.in-Let.body c.get.result.now c.in-Let.is c.as_slice-in-Let.ensures c.get.ensures) c.build_let.ensures.refused

pub build_one-build_let-requires : goal.build_one-build_let-requires
build_one-build_let-requires t c =
    (omega (arith, c.decreases, size_let c.args.expr.now c.in-Let.binds c.as_slice-in-Let.result.now c.in-Let.body c.get.result.now c.in-Let.is c.as_slice-in-Let.ensures c.get.ensures), tt)

pub build_one-returns-in-Apply-clause-built : goal.build_one-returns-in-Apply-clause-built
build_one-returns-in-Apply-clause-built t c =
    same_built (named_in c.args.env.now.table c.args.names.now) c.args.env.now c.build_apply.new.env (plain c.args.expr.now) _ c.build_apply.result (plain_apply c.args.expr.now c.in-Apply.function c.get-function.result.now c.in-Apply.arguments c.as_slice-in-Apply.result.now c.in-Apply.is c.get-function.ensures c.as_slice-in-Apply.ensures) c.build_apply.ensures.built

pub build_one-returns-in-Apply-clause-refused : goal.build_one-returns-in-Apply-clause-refused
build_one-returns-in-Apply-clause-refused t c =
    same_refused (named_in c.args.env.now.table c.args.names.now) c.args.env.now c.build_apply.new.env (plain c.args.expr.now) _ c.build_apply.result (plain_apply c.args.expr.now c.in-Apply.function c.get-function.result.now c.in-Apply.arguments c.as_slice-in-Apply.result.now c.in-Apply.is c.get-function.ensures c.as_slice-in-Apply.ensures) c.build_apply.ensures.refused

pub build_one-build_apply-requires : goal.build_one-build_apply-requires
build_one-build_apply-requires t c =
    (omega (arith, c.decreases, size_apply c.args.expr.now c.in-Apply.function c.get-function.result.now c.in-Apply.arguments c.as_slice-in-Apply.result.now c.in-Apply.is c.get-function.ensures c.as_slice-in-Apply.ensures), tt)

pub build_one-returns-in-Update-clause-built : goal.build_one-returns-in-Update-clause-built
build_one-returns-in-Update-clause-built t c =
    same_built (named_in c.args.env.now.table c.args.names.now) c.args.env.now c.build_update.new.env (plain c.args.expr.now) _ c.build_update.result (plain_update c.args.expr.now c.in-Update.function c.get-function-in-Update.result.now c.in-Update.arguments c.as_slice-arguments.result.now c.in-Update.value c.get-value.result.now c.in-Update.is c.get-function-in-Update.ensures c.as_slice-arguments.ensures c.get-value.ensures) c.build_update.ensures.built

pub build_one-returns-in-Update-clause-refused : goal.build_one-returns-in-Update-clause-refused
build_one-returns-in-Update-clause-refused t c =
    same_refused (named_in c.args.env.now.table c.args.names.now) c.args.env.now c.build_update.new.env (plain c.args.expr.now) _ c.build_update.result (plain_update c.args.expr.now c.in-Update.function c.get-function-in-Update.result.now c.in-Update.arguments c.as_slice-arguments.result.now c.in-Update.value c.get-value.result.now c.in-Update.is c.get-function-in-Update.ensures c.as_slice-arguments.ensures c.get-value.ensures) c.build_update.ensures.refused

pub build_one-build_update-requires : goal.build_one-build_update-requires
build_one-build_update-requires t c =
    (omega (arith, c.decreases, size_update c.args.expr.now c.in-Update.function c.get-function-in-Update.result.now c.in-Update.arguments c.as_slice-arguments.result.now c.in-Update.value c.get-value.result.now c.in-Update.is c.get-function-in-Update.ensures c.as_slice-arguments.ensures c.get-value.ensures), tt)

pub build_all-loop-i-init : goal.build_all-loop-i-init
build_all-loop-i-init t c =
    rw c.new-terms.ensures (record { first = first_start (named_in c.args.env.now.table c.args.names.now) c.args.env.now (exprs (map plain c.args.arguments.now)); contexts = contexts_same c.args.env.now; grown = adds_none c.args.env.now.table; same = refl; parts = parts_none (named_in c.args.env.now.table c.args.names.now) c.args.env.now.table (λ s. all_trees s (exprs (map plain c.args.arguments.now))) c.args.parts.now; kept = first_stay_start (named_in c.args.env.now.table c.args.names.now) c.args.env.now.table c.args.parts.now (exprs (map plain c.args.arguments.now)) })

pub build_all-build_one-requires : goal.build_all-build_one-requires
build_all-build_one-requires t c =
    (omega (arith, c.decreases, size_at _ _ _ c.loop-i-test.true c.index-arguments-i.is), tt)

pub build_all-returns-in_err-t-clause-refused : goal.build_all-returns-in_err-t-clause-refused
build_all-returns-in_err-t-clause-refused t c =
    let p = err_from_is_err_and c.from_residual.result c.from_residual.ensures.1 in
    rw (p.1, p.2) (first_stops (named_in c.args.env.now.table c.args.names.now) (named_in c.loop-i.env.table c.loop-i.names) c.args.env.now c.loop-i.env c.build_one.new.env (exprs (map plain c.args.arguments.now)) _ _ _ c.loop-i.terms (names_on c.loop-i.invariant.grown c.loop-i.invariant.same) (left_at _ _ _ c.loop-i-test.true c.index-arguments-i.is) c.loop-i.invariant.first _ c.in_err-t.ensures.refused)

pub build_all-returns-in_err-keep-clause-refused : goal.build_all-returns-in_err-keep-clause-refused
build_all-returns-in_err-keep-clause-refused t c =
    let p = err_from_is_err_and c.from_residual-in_err-keep.result c.from_residual-in_err-keep.ensures.1 in
    rw (p.1, p.2) (rw c.in_err-keep.ensures.cause (first_kept (named_in c.args.env.now.table c.args.names.now) (named_in c.loop-i.env.table c.loop-i.names) c.args.env.now c.loop-i.env c.build_one.new.env (exprs (map plain c.args.arguments.now)) _ _ _ c.loop-i.terms (names_on c.loop-i.invariant.grown c.loop-i.invariant.same) (left_at _ _ _ c.loop-i-test.true c.index-arguments-i.is) c.loop-i.invariant.first _ c.in_ok-t.ensures.built))

pub build_all-loop-i-preserved : goal.build_all-loop-i-preserved
build_all-loop-i-preserved t c =
    rw c.in_ok-keep.ensures.ok (record {
      first = first_more (named_in c.args.env.now.table c.args.names.now) (named_in c.loop-i.env.table c.loop-i.names) c.args.env.now c.loop-i.env c.build_one.new.env (exprs (map plain c.args.arguments.now)) _ _ _ c.loop-i.terms (names_on c.loop-i.invariant.grown c.loop-i.invariant.same) (left_at _ _ _ c.loop-i-test.true c.index-arguments-i.is) c.loop-i.invariant.first _ c.in_ok-t.ensures.built;
      contexts = contexts_on c.args.env.now c.loop-i.env c.build_one.new.env c.loop-i.invariant.contexts c.build_one.ensures.contexts;
      grown = adds_on c.args.env.now.table c.loop-i.env.table c.build_one.new.env.table c.loop-i.invariant.grown c.build_one.ensures.grown;
      same = c.build_one.ensures.names ∙ c.loop-i.invariant.same;
      parts = first_parts (named_in c.args.env.now.table c.args.names.now) (named_in c.loop-i.env.table c.loop-i.names) c.args.env.now c.loop-i.env c.build_one.new.env (exprs (map plain c.args.arguments.now)) _ _ _ c.loop-i.terms (names_on c.loop-i.invariant.grown c.loop-i.invariant.same) (left_at _ _ _ c.loop-i-test.true c.index-arguments-i.is) c.loop-i.invariant.first c.loop-i.invariant.grown c.build_one.ensures.grown c.loop-i.parts c.build_one.new.parts c.in_ok-t.ensures.parts c.args.parts.now c.loop-i.invariant.parts;
      kept = first_within (named_in c.args.env.now.table c.args.names.now) (named_in c.loop-i.env.table c.loop-i.names) c.args.env.now c.loop-i.env c.build_one.new.env (exprs (map plain c.args.arguments.now)) _ _ _ c.loop-i.terms (names_on c.loop-i.invariant.grown c.loop-i.invariant.same) (left_at _ _ _ c.loop-i-test.true c.index-arguments-i.is) c.loop-i.invariant.first c.loop-i.invariant.grown c.build_one.ensures.grown c.loop-i.parts c.build_one.new.parts c.in_ok-t.ensures.parts _ c.loop-i.invariant.kept c.in_ok-t.ensures.kept c.in_ok-t.ensures.built;
    })

pub build_all-returns-clause-built : goal.build_all-returns-clause-built
build_all-returns-clause-built t c =
    first_all (named_in c.args.env.now.table c.args.names.now) c.args.env.now c.loop-i.env (exprs (map plain c.args.arguments.now)) _ c.loop-i.terms (none_left c.args.arguments.now c.loop-i.i (search rules)) c.loop-i.invariant.first

pub build_call-returns-in_err-terms-clause-refused : goal.build_call-returns-in_err-terms-clause-refused
build_call-returns-in_err-terms-clause-refused t c =
    let p = err_from_is_err_and c.from_residual.result c.from_residual.ensures.1 in
    rw (p.1, p.2) (call_stops_arguments (named_in c.args.env.now.table c.args.names.now) c.args.env.now c.args.place c.args.word.now (exprs (map plain c.args.arguments.now)) c.build_all.new.env _ c.in_err-terms.ensures.refused)

pub build_call-returns-in_err-t-clause-refused : goal.build_call-returns-in_err-t-clause-refused
build_call-returns-in_err-t-clause-refused t c =
    let p = err_from_is_err_and c.from_residual-in_err-t.result c.from_residual-in_err-t.ensures.1 in
    rw (p.1, p.2) (call_stops_call (named_in c.args.env.now.table c.args.names.now) c.args.env.now c.args.place c.args.word.now (exprs (map plain c.args.arguments.now)) c.build_all.new.env c.operate.new.env c.as_slice.result.now (subst (BuildsEach (named_in c.args.env.now.table c.args.names.now) c.args.env.now c.build_all.new.env (exprs (map plain c.args.arguments.now))) (sym c.as_slice.ensures) c.in_ok-terms.ensures.built) _ c.in_err-t.ensures.refused c.in_err-t.ensures.past)

pub build_call-returns-in_err-keep-clause-refused : goal.build_call-returns-in_err-keep-clause-refused
build_call-returns-in_err-keep-clause-refused t c =
    let p = err_from_is_err_and c.from_residual-in_err-keep.result c.from_residual-in_err-keep.ensures.1 in
    rw (p.1, p.2) (rw c.in_err-keep.ensures.cause (stops_kept (named_in c.args.env.now.table c.args.names.now) c.args.env.now c.operate.new.env _ _ (call_builds (named_in c.args.env.now.table c.args.names.now) c.args.env.now c.args.place c.args.word.now (exprs (map plain c.args.arguments.now)) c.build_all.new.env c.operate.new.env c.as_slice.result.now (subst (BuildsEach (named_in c.args.env.now.table c.args.names.now) c.args.env.now c.build_all.new.env (exprs (map plain c.args.arguments.now))) (sym c.as_slice.ensures) c.in_ok-terms.ensures.built) _ c.in_ok-t.ensures.built)))

pub build_call-returns-clause-built : goal.build_call-returns-clause-built
build_call-returns-clause-built t c =
    call_builds (named_in c.args.env.now.table c.args.names.now) c.args.env.now c.args.place c.args.word.now (exprs (map plain c.args.arguments.now)) c.build_all.new.env c.operate.new.env c.as_slice.result.now (subst (BuildsEach (named_in c.args.env.now.table c.args.names.now) c.args.env.now c.build_all.new.env (exprs (map plain c.args.arguments.now))) (sym c.as_slice.ensures) c.in_ok-terms.ensures.built) _ c.in_ok-t.ensures.built

pub build_apply-returns-in_err-build_one-clause-refused : goal.build_apply-returns-in_err-build_one-clause-refused
build_apply-returns-in_err-build_one-clause-refused t c =
    let p = err_from_is_err_and c.from_residual.result c.from_residual.ensures.1 in
    rw (p.1, p.2) (apply_stops_function (named_in c.args.env.now.table c.args.names.now) c.args.env.now c.args.place (plain c.args.function.now) (exprs (map plain c.args.arguments.now)) c.build_one.new.env _ c.in_err-build_one.ensures.refused)

pub build_apply-returns-in_err-build_all-clause-refused : goal.build_apply-returns-in_err-build_all-clause-refused
build_apply-returns-in_err-build_all-clause-refused t c =
    let p = err_from_is_err_and c.from_residual-in_err-build_all.result c.from_residual-in_err-build_all.ensures.1 in
    rw (p.1, p.2) (apply_stops_arguments (named_in c.args.env.now.table c.args.names.now) c.args.env.now c.args.place (plain c.args.function.now) (exprs (map plain c.args.arguments.now)) c.build_one.new.env _ c.in_ok-build_one.ensures.built c.build_all.new.env _ (subst (λ ns. StopsEach ns c.build_one.new.env c.build_all.new.env (exprs (map plain c.args.arguments.now)) c.in_err-build_all.field-0.0) (names_on c.build_one.ensures.grown c.build_one.ensures.names) c.in_err-build_all.ensures.refused))

pub build_apply-returns-clause-refused : goal.build_apply-returns-clause-refused
build_apply-returns-clause-refused t c =
    apply_stops (named_in c.args.env.now.table c.args.names.now) c.args.env.now c.args.place (plain c.args.function.now) (exprs (map plain c.args.arguments.now)) c.build_one.new.env _ c.in_ok-build_one.ensures.built c.build_all.new.env _ _ c.misfits.ensures.typed (subst (λ ns. BuildsEach ns c.build_one.new.env c.build_all.new.env (exprs (map plain c.args.arguments.now)) c.in_ok-build_all.field-0) (names_on c.build_one.ensures.grown c.build_one.ensures.names) c.in_ok-build_all.ensures.built) c.no_function.ensures

pub build_update-returns-in_err-build_one-clause-refused : goal.build_update-returns-in_err-build_one-clause-refused
build_update-returns-in_err-build_one-clause-refused t c =
    let p = err_from_is_err_and c.from_residual.result c.from_residual.ensures.1 in
    rw (p.1, p.2) (update_stops_function (named_in c.args.env.now.table c.args.names.now) c.args.env.now c.args.place (plain c.args.function.now) (exprs (map plain c.args.arguments.now)) (plain c.args.value.now) c.build_one.new.env _ c.in_err-build_one.ensures.refused)

pub build_update-returns-in_err-build_all-clause-refused : goal.build_update-returns-in_err-build_all-clause-refused
build_update-returns-in_err-build_all-clause-refused t c =
    let p = err_from_is_err_and c.from_residual-in_err-build_all.result c.from_residual-in_err-build_all.ensures.1 in
    rw (p.1, p.2) (update_stops_arguments (named_in c.args.env.now.table c.args.names.now) c.args.env.now c.args.place (plain c.args.function.now) (exprs (map plain c.args.arguments.now)) (plain c.args.value.now) c.build_one.new.env _ c.in_ok-build_one.ensures.built c.build_all.new.env _ (subst (λ ns. StopsEach ns c.build_one.new.env c.build_all.new.env (exprs (map plain c.args.arguments.now)) c.in_err-build_all.field-0.0) (names_on c.build_one.ensures.grown c.build_one.ensures.names) c.in_err-build_all.ensures.refused))

pub build_update-returns-in_err-build_one-2-clause-refused : goal.build_update-returns-in_err-build_one-2-clause-refused
build_update-returns-in_err-build_one-2-clause-refused t c =
    let p = err_from_is_err_and c.from_residual-in_err-build_one-2.result c.from_residual-in_err-build_one-2.ensures.1 in
    rw (p.1, p.2) (update_stops_value (named_in c.args.env.now.table c.args.names.now) c.args.env.now c.args.place (plain c.args.function.now) (exprs (map plain c.args.arguments.now)) (plain c.args.value.now) c.build_one.new.env _ c.in_ok-build_one.ensures.built c.build_all.new.env _ (subst (λ ns. BuildsEach ns c.build_one.new.env c.build_all.new.env (exprs (map plain c.args.arguments.now)) c.in_ok-build_all.field-0) (names_on c.build_one.ensures.grown c.build_one.ensures.names) c.in_ok-build_all.ensures.built) c.build_one-2.new.env _ (subst (λ ns. Stops ns c.build_all.new.env c.build_one-2.new.env (plain c.args.value.now) c.in_err-build_one-2.field-0.0) (names_on c.build_all.ensures.grown c.build_all.ensures.names ∙ names_on c.build_one.ensures.grown c.build_one.ensures.names) c.in_err-build_one-2.ensures.refused))

pub build_update-returns-clause-refused : goal.build_update-returns-clause-refused
build_update-returns-clause-refused t c =
    update_stops (named_in c.args.env.now.table c.args.names.now) c.args.env.now c.args.place (plain c.args.function.now) (exprs (map plain c.args.arguments.now)) (plain c.args.value.now) c.build_one.new.env _ c.in_ok-build_one.ensures.built c.build_all.new.env _ (subst (λ ns. BuildsEach ns c.build_one.new.env c.build_all.new.env (exprs (map plain c.args.arguments.now)) c.in_ok-build_all.field-0) (names_on c.build_one.ensures.grown c.build_one.ensures.names) c.in_ok-build_all.ensures.built) c.build_one-2.new.env _ (subst (λ ns. Builds ns c.build_all.new.env c.build_one-2.new.env (plain c.args.value.now) c.in_ok-build_one-2.field-0) (names_on c.build_all.ensures.grown c.build_all.ensures.names ∙ names_on c.build_one.ensures.grown c.build_one.ensures.names) c.in_ok-build_one-2.ensures.built) _ c.misfits.ensures.typed c.no_function.ensures

pub build_bound-loop-i-init : goal.build_bound-loop-i-init
build_bound-loop-i-init t c =
    rw c.new-terms.ensures (record { first = bound_start (named_in c.args.env.now.table c.args.names.now) c.args.env.now (binds (map plain_bind c.args.bindings.now)); count = refl; contexts = contexts_same c.args.env.now; grown = adds_none c.args.env.now.table; same = refl; parts = parts_none (named_in c.args.env.now.table c.args.names.now) c.args.env.now.table (λ s. bound_trees s (binds (map plain_bind c.args.bindings.now))) c.args.parts.now; kept = bound_stay_start (named_in c.args.env.now.table c.args.names.now) c.args.env.now.table c.args.parts.now (binds (map plain_bind c.args.bindings.now)) })

pub build_bound-build_one-requires : goal.build_bound-build_one-requires
build_bound-build_one-requires t c =
    (omega (arith, c.decreases, bound_size_at c.args.bindings.now c.loop-i.i c.index-bindings-i.result c.loop-i-test.true), tt)

pub build_bound-returns-in_err-t-clause-refused : goal.build_bound-returns-in_err-t-clause-refused
build_bound-returns-in_err-t-clause-refused t c =
    let p = err_from_is_err_and c.from_residual.result c.from_residual.ensures.1 in
    rw (p.1, p.2) (bound_stops (named_in c.args.env.now.table c.args.names.now) (named_in c.loop-i.env.table c.loop-i.names) c.args.env.now c.loop-i.env c.build_one.new.env (binds (map plain_bind c.args.bindings.now)) _ _ _ _ c.loop-i.terms (names_on c.loop-i.invariant.grown c.loop-i.invariant.same) (bound_at c.args.bindings.now c.loop-i.i c.index-bindings-i.result c.loop-i-test.true) c.loop-i.invariant.first _ c.in_err-t.ensures.refused)

pub build_bound-returns-in_err-keep-clause-refused : goal.build_bound-returns-in_err-keep-clause-refused
build_bound-returns-in_err-keep-clause-refused t c =
    let p = err_from_is_err_and c.from_residual-in_err-keep.result c.from_residual-in_err-keep.ensures.1 in
    rw (p.1, p.2) (rw c.in_err-keep.ensures.cause (bound_kept (named_in c.args.env.now.table c.args.names.now) (named_in c.loop-i.env.table c.loop-i.names) c.args.env.now c.loop-i.env c.build_one.new.env (binds (map plain_bind c.args.bindings.now)) _ _ _ _ c.loop-i.terms (names_on c.loop-i.invariant.grown c.loop-i.invariant.same) (bound_at c.args.bindings.now c.loop-i.i c.index-bindings-i.result c.loop-i-test.true) c.loop-i.invariant.first _ c.in_ok-t.ensures.built))

pub build_bound-loop-i-preserved : goal.build_bound-loop-i-preserved
build_bound-loop-i-preserved t c =
    rw c.in_ok-keep.ensures.ok (record {
      first = bound_more (named_in c.args.env.now.table c.args.names.now) (named_in c.loop-i.env.table c.loop-i.names) c.args.env.now c.loop-i.env c.build_one.new.env c.args.bindings.now c.index-bindings-i.result _ _ c.loop-i.terms _ c.loop-i.i c.loop-i.invariant.count c.loop-i-test.true (names_on c.loop-i.invariant.grown c.loop-i.invariant.same)
          (bound_at c.args.bindings.now c.loop-i.i c.index-bindings-i.result c.loop-i-test.true) c.loop-i.invariant.first c.in_ok-t.ensures.built;
      count = length-append c.loop-i.terms _ ∙ ap (λ n. n + 1) c.loop-i.invariant.count;
      contexts = contexts_on c.args.env.now c.loop-i.env c.build_one.new.env c.loop-i.invariant.contexts c.build_one.ensures.contexts;
      grown = adds_on c.args.env.now.table c.loop-i.env.table c.build_one.new.env.table c.loop-i.invariant.grown c.build_one.ensures.grown;
      same = c.build_one.ensures.names ∙ c.loop-i.invariant.same;
      parts = bound_parts (named_in c.args.env.now.table c.args.names.now) (named_in c.loop-i.env.table c.loop-i.names) c.args.env.now c.loop-i.env c.build_one.new.env c.args.bindings.now c.index-bindings-i.result _ _ c.loop-i.terms c.loop-i.i (names_on c.loop-i.invariant.grown c.loop-i.invariant.same) (bound_at c.args.bindings.now c.loop-i.i c.index-bindings-i.result c.loop-i-test.true) c.loop-i.invariant.first c.loop-i.invariant.grown c.build_one.ensures.grown c.loop-i.parts c.build_one.new.parts c.in_ok-t.ensures.parts c.args.parts.now c.loop-i.invariant.parts;
      kept = bound_within (named_in c.args.env.now.table c.args.names.now) (named_in c.loop-i.env.table c.loop-i.names) c.args.env.now c.loop-i.env c.build_one.new.env c.args.bindings.now c.index-bindings-i.result _ _ c.loop-i.terms c.loop-i.i (names_on c.loop-i.invariant.grown c.loop-i.invariant.same) (bound_at c.args.bindings.now c.loop-i.i c.index-bindings-i.result c.loop-i-test.true) c.loop-i.invariant.first c.loop-i.invariant.grown c.build_one.ensures.grown c.loop-i.parts c.build_one.new.parts c.in_ok-t.ensures.parts _ c.loop-i.invariant.count c.loop-i-test.true c.loop-i.invariant.kept c.in_ok-t.ensures.kept c.in_ok-t.ensures.built;
    })

pub build_bound-returns-clause-built : goal.build_bound-returns-clause-built
build_bound-returns-clause-built t c =
    bound_all (named_in c.args.env.now.table c.args.names.now) c.args.env.now c.loop-i.env c.args.bindings.now c.loop-i.i c.loop-i.terms c.loop-i.invariant.count (search rules) (search rules) c.loop-i.invariant.first

pub build_let-returns-in_err-again-clause-refused : goal.build_let-returns-in_err-again-clause-refused
build_let-returns-in_err-again-clause-refused t c =
    let p = err_from_is_err_and c.from_residual.result c.from_residual.ensures.1 in
    rw (p.1, p.2) (rw c.in_err-again.ensures.cause (let_stops_memory (named_in c.args.env.now.table c.args.names.now) c.args.env.now c.args.place (binds (map plain_bind c.args.bindings.now)) (plain c.args.body.now)))

pub build_let-returns-in-Some-clause-refused : goal.build_let-returns-in-Some-clause-refused
build_let-returns-in-Some-clause-refused t c =
    let_stops_twice (named_in c.args.env.now.table c.args.names.now) c.args.env.now c.args.place (binds (map plain_bind c.args.bindings.now)) (plain c.args.body.now) _ _ (repeated_at c.args.bindings.now c.in_ok-again.field-0 c.in-Some.again c.index-bindings-again.result c.in-Some.is c.in_ok-again.ensures.some) c.twice.ensures

pub build_let-returns-in_err-terms-clause-refused : goal.build_let-returns-in_err-terms-clause-refused
build_let-returns-in_err-terms-clause-refused t c =
    let p = err_from_is_err_and c.from_residual-in_err-terms.result c.from_residual-in_err-terms.ensures.1 in
    rw (p.1, p.2) (let_stops_bound (named_in c.args.env.now.table c.args.names.now) c.args.env.now c.args.place (binds (map plain_bind c.args.bindings.now)) (plain c.args.body.now) (once_by c.args.bindings.now c.in_ok-again.field-0 c.in_default.not-Some c.in_ok-again.ensures.none) c.build_bound.new.env _ c.in_err-terms.ensures.refused)

pub build_let-bind_all-requires : goal.build_let-bind_all-requires
build_let-bind_all-requires t c =
    ap length c.as_slice.ensures ∙ c.in_ok-terms.ensures.built.count ∙ ap length (names_same c.args.bindings.now) ∙ names_count c.args.bindings.now

pub build_let-returns-in_err-bind_all-clause-refused : goal.build_let-returns-in_err-bind_all-clause-refused
build_let-returns-in_err-bind_all-clause-refused t c =
    let p = err_from_is_err_and c.from_residual-in_err-bind_all.result c.from_residual-in_err-bind_all.ensures.1 in
    rw (p.1, p.2) (rw c.in_err-bind_all.ensures.cause (let_stops_kept (named_in c.args.env.now.table c.args.names.now) c.args.env.now c.args.place (binds (map plain_bind c.args.bindings.now)) (plain c.args.body.now) c.build_bound.new.env _ c.in_ok-terms.ensures.built))

pub build_let-returns-clause-built : goal.build_let-returns-clause-built
build_let-returns-clause-built t c =
    let_built (named_in c.args.env.now.table c.args.names.now) c.args.env.now c.args.place (binds (map plain_bind c.args.bindings.now)) (plain c.args.body.now) (once_by c.args.bindings.now c.in_ok-again.field-0 c.in_default.not-Some c.in_ok-again.ensures.none) c.misfits.ensures.typed c.build_bound.new.env c.build_one-answer.new.env c.in_ok-bind_all.ensures.ok.0 (λ s named. c.in_ok-terms.ensures.built.each s named c.in_ok-bind_all.ensures.ok.0 (c.in_ok-bind_all.ensures.ok.2 ∙ sym (names_same c.args.bindings.now)) (c.in_ok-bind_all.ensures.ok.3 ∙ c.as_slice.ensures)) c.build_one-answer.result (subst (λ ns. IfOk c.build_one-answer.result (Builds ns c.build_bound.new.env c.build_one-answer.new.env (plain c.args.body.now))) (ap (named_in c.build_bound.new.env.table) c.in_ok-bind_all.ensures.ok.1 ∙ ap (λ ns. with_bound ns c.in_ok-bind_all.ensures.ok.0) (names_on c.build_bound.ensures.grown c.build_bound.ensures.names)) c.build_one-answer.ensures.built)

pub build_let-returns-clause-refused : goal.build_let-returns-clause-refused
build_let-returns-clause-refused t c =
    let_refused (named_in c.args.env.now.table c.args.names.now) c.args.env.now c.args.place (binds (map plain_bind c.args.bindings.now)) (plain c.args.body.now) (once_by c.args.bindings.now c.in_ok-again.field-0 c.in_default.not-Some c.in_ok-again.ensures.none) c.misfits.ensures.typed c.build_bound.new.env c.build_one-answer.new.env c.in_ok-bind_all.ensures.ok.0 (λ s named. c.in_ok-terms.ensures.built.each s named c.in_ok-bind_all.ensures.ok.0 (c.in_ok-bind_all.ensures.ok.2 ∙ sym (names_same c.args.bindings.now)) (c.in_ok-bind_all.ensures.ok.3 ∙ c.as_slice.ensures)) c.build_one-answer.result (subst (λ ns. IfErr c.build_one-answer.result (Stops ns c.build_bound.new.env c.build_one-answer.new.env (plain c.args.body.now))) (ap (named_in c.build_bound.new.env.table) c.in_ok-bind_all.ensures.ok.1 ∙ ap (λ ns. with_bound ns c.in_ok-bind_all.ensures.ok.0) (names_on c.build_bound.ensures.grown c.build_bound.ensures.names)) c.build_one-answer.ensures.refused)

pub build_let-build_one-answer-requires : goal.build_let-build_one-answer-requires
build_let-build_one-answer-requires t c =
    (omega (arith, c.decreases), tt)

pub build_let-returns-clause-names : goal.build_let-returns-clause-names
build_let-returns-clause-names t c =
    c.unbind_first.ensures c.args.names.now c.in_ok-bind_all.ensures.ok.0 (c.build_one-answer.ensures.names ∙ (c.in_ok-bind_all.ensures.ok.1 ∙ ap (λ ns. ns ++ c.in_ok-bind_all.ensures.ok.0) c.build_bound.ensures.names)) (c.in_ok-bind_all.ensures.ok.2 ∙ sym (take_all (length c.args.bindings.now) (binding_names c.args.bindings.now) (omega (arith, names_count c.args.bindings.now))))

pub build_one-returns-in-Number-clause-refused : goal.build_one-returns-in-Number-clause-refused
build_one-returns-in-Number-clause-refused t c =
    unbuilt_refused (named_in c.args.env.now.table c.args.names.now) c.args.env.now c.args.expr.now c.in-Number.is

pub build_one-returns-in-True-clause-grown : goal.build_one-returns-in-True-clause-grown
build_one-returns-in-True-clause-grown t c = adds_none c.args.env.now.table

pub build_one-returns-in-False-clause-grown : goal.build_one-returns-in-False-clause-grown
build_one-returns-in-False-clause-grown t c = adds_none c.args.env.now.table

pub build_one-returns-in-Name-clause-grown : goal.build_one-returns-in-Name-clause-grown
build_one-returns-in-Name-clause-grown t c = adds_none c.args.env.now.table

pub build_one-returns-in-Number-clause-grown : goal.build_one-returns-in-Number-clause-grown
build_one-returns-in-Number-clause-grown t c = adds_none c.args.env.now.table

pub build_all-returns-in_err-t-clause-grown : goal.build_all-returns-in_err-t-clause-grown
build_all-returns-in_err-t-clause-grown t c = adds_on c.args.env.now.table c.loop-i.env.table c.build_one.new.env.table c.loop-i.invariant.grown c.build_one.ensures.grown

pub build_all-returns-in_err-keep-clause-grown : goal.build_all-returns-in_err-keep-clause-grown
build_all-returns-in_err-keep-clause-grown t c = adds_on c.args.env.now.table c.loop-i.env.table c.build_one.new.env.table c.loop-i.invariant.grown c.build_one.ensures.grown

pub build_bound-returns-in_err-t-clause-grown : goal.build_bound-returns-in_err-t-clause-grown
build_bound-returns-in_err-t-clause-grown t c = adds_on c.args.env.now.table c.loop-i.env.table c.build_one.new.env.table c.loop-i.invariant.grown c.build_one.ensures.grown

pub build_bound-returns-in_err-keep-clause-grown : goal.build_bound-returns-in_err-keep-clause-grown
build_bound-returns-in_err-keep-clause-grown t c = adds_on c.args.env.now.table c.loop-i.env.table c.build_one.new.env.table c.loop-i.invariant.grown c.build_one.ensures.grown

pub build_call-returns-in_err-t-clause-grown : goal.build_call-returns-in_err-t-clause-grown
build_call-returns-in_err-t-clause-grown t c = adds_on c.args.env.now.table c.build_all.new.env.table c.operate.new.env.table c.build_all.ensures.grown c.operate.ensures.grown

pub build_call-returns-in_err-keep-clause-grown : goal.build_call-returns-in_err-keep-clause-grown
build_call-returns-in_err-keep-clause-grown t c = adds_on c.args.env.now.table c.build_all.new.env.table c.operate.new.env.table c.build_all.ensures.grown c.operate.ensures.grown

pub build_call-returns-clause-grown : goal.build_call-returns-clause-grown
build_call-returns-clause-grown t c = adds_on c.args.env.now.table c.build_all.new.env.table c.operate.new.env.table c.build_all.ensures.grown c.operate.ensures.grown

pub build_apply-returns-in_err-build_all-clause-grown : goal.build_apply-returns-in_err-build_all-clause-grown
build_apply-returns-in_err-build_all-clause-grown t c = adds_on c.args.env.now.table c.build_one.new.env.table c.build_all.new.env.table c.build_one.ensures.grown c.build_all.ensures.grown

pub build_apply-returns-clause-grown : goal.build_apply-returns-clause-grown
build_apply-returns-clause-grown t c = adds_on c.args.env.now.table c.build_one.new.env.table c.build_all.new.env.table c.build_one.ensures.grown c.build_all.ensures.grown

pub build_update-returns-in_err-build_all-clause-grown : goal.build_update-returns-in_err-build_all-clause-grown
build_update-returns-in_err-build_all-clause-grown t c = adds_on c.args.env.now.table c.build_one.new.env.table c.build_all.new.env.table c.build_one.ensures.grown c.build_all.ensures.grown

pub build_update-returns-in_err-build_one-2-clause-grown : goal.build_update-returns-in_err-build_one-2-clause-grown
build_update-returns-in_err-build_one-2-clause-grown t c = adds_on c.args.env.now.table c.build_all.new.env.table c.build_one-2.new.env.table (adds_on c.args.env.now.table c.build_one.new.env.table c.build_all.new.env.table c.build_one.ensures.grown c.build_all.ensures.grown) c.build_one-2.ensures.grown

pub build_update-returns-clause-grown : goal.build_update-returns-clause-grown
build_update-returns-clause-grown t c = adds_on c.args.env.now.table c.build_all.new.env.table c.build_one-2.new.env.table (adds_on c.args.env.now.table c.build_one.new.env.table c.build_all.new.env.table c.build_one.ensures.grown c.build_all.ensures.grown) c.build_one-2.ensures.grown

pub build_let-returns-in_err-again-clause-grown : goal.build_let-returns-in_err-again-clause-grown
build_let-returns-in_err-again-clause-grown t c = adds_none c.args.env.now.table

pub build_let-returns-in-Some-clause-grown : goal.build_let-returns-in-Some-clause-grown
build_let-returns-in-Some-clause-grown t c = adds_none c.args.env.now.table

pub build_let-returns-clause-grown : goal.build_let-returns-clause-grown
build_let-returns-clause-grown t c = adds_on c.args.env.now.table c.build_bound.new.env.table c.build_one-answer.new.env.table c.build_bound.ensures.grown c.build_one-answer.ensures.grown

pub build_one-returns-in-True-clause-parts : goal.build_one-returns-in-True-clause-parts
build_one-returns-in-True-clause-parts t c =
    no_parts (named_in c.args.env.now.table c.args.names.now) c.args.env.now.table (plain c.args.expr.now) c.args.parts.now

pub build_one-returns-in-False-clause-parts : goal.build_one-returns-in-False-clause-parts
build_one-returns-in-False-clause-parts t c =
    no_parts (named_in c.args.env.now.table c.args.names.now) c.args.env.now.table (plain c.args.expr.now) c.args.parts.now

pub build_one-returns-in-Name-clause-parts : goal.build_one-returns-in-Name-clause-parts
build_one-returns-in-Name-clause-parts t c =
    parts_of_any (named_in c.args.env.now.table c.args.names.now) c.args.env.now.table (plain c.args.expr.now) c.args.parts.now c.find.result

pub build_one-returns-in-True-clause-kept : goal.build_one-returns-in-True-clause-kept
build_one-returns-in-True-clause-kept t c =
    stays_true (named_in c.args.env.now.table c.args.names.now) c.args.env.now.table c.args.parts.now (plain c.args.expr.now) _ _ (plain_true _ c.in-True.is) (subst (λ w. HasShape w c.true_term.result shape.True) c.table.ensures c.true_term.ensures)

pub build_one-returns-in-False-clause-kept : goal.build_one-returns-in-False-clause-kept
build_one-returns-in-False-clause-kept t c =
    stays_false (named_in c.args.env.now.table c.args.names.now) c.args.env.now.table c.args.parts.now (plain c.args.expr.now) _ _ (plain_false _ c.in-False.is) (subst (λ w. HasShape w c.false_term.result shape.False) c.table-in-False.ensures c.false_term.ensures)

pub build_one-returns-in-Name-clause-kept : goal.build_one-returns-in-Name-clause-kept
build_one-returns-in-Name-clause-kept t c =
    name_stays (named_in c.args.env.now.table c.args.names.now) c.args.env.now.table c.args.parts.now (plain c.args.expr.now) _ _ c.find.result (plain_name _ _ c.in-Name.is) (subst (λ w. IfOk c.find.result (λ t. term_named (named_in w c.args.names.now) c.in-Name.name ≡ Some t)) c.table-in-Name.ensures c.find.ensures.found)

pub build_one-returns-in-Op-clause-parts : goal.build_one-returns-in-Op-clause-parts
build_one-returns-in-Op-clause-parts t c =
    same_parts (named_in c.args.env.now.table c.args.names.now) c.args.env.now.table c.build_call.new.env.table (plain c.args.expr.now) _ c.args.parts.now c.build_call.new.parts c.build_call.result (plain_op c.args.expr.now c.in-Op.word c.in-Op.arguments c.as_slice.result.now c.in-Op.is c.as_slice.ensures) c.build_call.ensures.parts

pub build_one-returns-in-Op-clause-kept : goal.build_one-returns-in-Op-clause-kept
build_one-returns-in-Op-clause-kept t c =
    same_stays (named_in c.args.env.now.table c.args.names.now) c.args.env.now.table c.build_call.new.env.table c.build_call.new.parts (plain c.args.expr.now) _ c.build_call.result (plain_op c.args.expr.now c.in-Op.word c.in-Op.arguments c.as_slice.result.now c.in-Op.is c.as_slice.ensures) c.build_call.ensures.kept

pub build_one-returns-in-Let-clause-parts : goal.build_one-returns-in-Let-clause-parts
build_one-returns-in-Let-clause-parts t c =
    same_parts (named_in c.args.env.now.table c.args.names.now) c.args.env.now.table c.build_let.new.env.table (plain c.args.expr.now) _ c.args.parts.now c.build_let.new.parts c.build_let.result (plain_let c.args.expr.now c.in-Let.binds c.as_slice-in-Let.result.now c.in-Let.body c.get.result.now c.in-Let.is c.as_slice-in-Let.ensures c.get.ensures) c.build_let.ensures.parts

pub build_one-returns-in-Let-clause-kept : goal.build_one-returns-in-Let-clause-kept
build_one-returns-in-Let-clause-kept t c =
    same_stays (named_in c.args.env.now.table c.args.names.now) c.args.env.now.table c.build_let.new.env.table c.build_let.new.parts (plain c.args.expr.now) _ c.build_let.result (plain_let c.args.expr.now c.in-Let.binds c.as_slice-in-Let.result.now c.in-Let.body c.get.result.now c.in-Let.is c.as_slice-in-Let.ensures c.get.ensures) c.build_let.ensures.kept

pub build_one-returns-in-Apply-clause-parts : goal.build_one-returns-in-Apply-clause-parts
build_one-returns-in-Apply-clause-parts t c =
    same_parts (named_in c.args.env.now.table c.args.names.now) c.args.env.now.table c.build_apply.new.env.table (plain c.args.expr.now) _ c.args.parts.now c.build_apply.new.parts c.build_apply.result (plain_apply c.args.expr.now c.in-Apply.function c.get-function.result.now c.in-Apply.arguments c.as_slice-in-Apply.result.now c.in-Apply.is c.get-function.ensures c.as_slice-in-Apply.ensures) c.build_apply.ensures.parts

pub build_one-returns-in-Apply-clause-kept : goal.build_one-returns-in-Apply-clause-kept
build_one-returns-in-Apply-clause-kept t c =
    same_stays (named_in c.args.env.now.table c.args.names.now) c.args.env.now.table c.build_apply.new.env.table c.build_apply.new.parts (plain c.args.expr.now) _ c.build_apply.result (plain_apply c.args.expr.now c.in-Apply.function c.get-function.result.now c.in-Apply.arguments c.as_slice-in-Apply.result.now c.in-Apply.is c.get-function.ensures c.as_slice-in-Apply.ensures) c.build_apply.ensures.kept

pub build_one-returns-in-Update-clause-parts : goal.build_one-returns-in-Update-clause-parts
build_one-returns-in-Update-clause-parts t c =
    same_parts (named_in c.args.env.now.table c.args.names.now) c.args.env.now.table c.build_update.new.env.table (plain c.args.expr.now) _ c.args.parts.now c.build_update.new.parts c.build_update.result (plain_update c.args.expr.now c.in-Update.function c.get-function-in-Update.result.now c.in-Update.arguments c.as_slice-arguments.result.now c.in-Update.value c.get-value.result.now c.in-Update.is c.get-function-in-Update.ensures c.as_slice-arguments.ensures c.get-value.ensures) c.build_update.ensures.parts

pub build_one-returns-in-Update-clause-kept : goal.build_one-returns-in-Update-clause-kept
build_one-returns-in-Update-clause-kept t c =
    same_stays (named_in c.args.env.now.table c.args.names.now) c.args.env.now.table c.build_update.new.env.table c.build_update.new.parts (plain c.args.expr.now) _ c.build_update.result (plain_update c.args.expr.now c.in-Update.function c.get-function-in-Update.result.now c.in-Update.arguments c.as_slice-arguments.result.now c.in-Update.value c.get-value.result.now c.in-Update.is c.get-function-in-Update.ensures c.as_slice-arguments.ensures c.get-value.ensures) c.build_update.ensures.kept

pub build_all-returns-clause-kept : goal.build_all-returns-clause-kept
build_all-returns-clause-kept t c =
    first_all_within (named_in c.args.env.now.table c.args.names.now) c.args.env.now.table c.loop-i.env.table c.loop-i.parts (exprs (map plain c.args.arguments.now)) _ c.loop-i.terms (none_left c.args.arguments.now c.loop-i.i (search rules)) c.loop-i.invariant.kept

pub build_bound-returns-clause-kept : goal.build_bound-returns-clause-kept
build_bound-returns-clause-kept t c =
    bound_all_within (named_in c.args.env.now.table c.args.names.now) c.args.env.now.table c.loop-i.env.table c.loop-i.parts c.args.bindings.now c.loop-i.i _ (search rules) c.loop-i.invariant.kept

pub build_call-returns-clause-parts : goal.build_call-returns-clause-parts
build_call-returns-clause-parts t c =
    parts_call (named_in c.args.env.now.table c.args.names.now) c.args.env.now.table c.build_all.new.env.table c.operate.new.env.table (only_wider _ _ c.operate.ensures.grown) c.args.place c.args.word.now (exprs (map plain c.args.arguments.now)) c.args.parts.now c.build_all.new.parts _ _ c.in_ok-terms.ensures.parts c.in_ok-keep.ensures.ok (call_builds (named_in c.args.env.now.table c.args.names.now) c.args.env.now c.args.place c.args.word.now (exprs (map plain c.args.arguments.now)) c.build_all.new.env c.operate.new.env c.as_slice.result.now (subst (BuildsEach (named_in c.args.env.now.table c.args.names.now) c.args.env.now c.build_all.new.env (exprs (map plain c.args.arguments.now))) (sym c.as_slice.ensures) c.in_ok-terms.ensures.built) _ c.in_ok-t.ensures.built)

pub build_call-returns-clause-kept : goal.build_call-returns-clause-kept
build_call-returns-clause-kept t c =
    stays_call (named_in c.args.env.now.table c.args.names.now) c.args.env.now.table c.build_all.new.env.table c.operate.new.env.table (only_wider _ _ c.operate.ensures.grown) c.is_world.ensures.table c.args.place c.args.word.now (exprs (map plain c.args.arguments.now)) c.build_all.new.parts _ _ _ c.in_ok-terms.ensures.kept c.in_ok-keep.ensures.ok (call_builds (named_in c.args.env.now.table c.args.names.now) c.args.env.now c.args.place c.args.word.now (exprs (map plain c.args.arguments.now)) c.build_all.new.env c.operate.new.env c.as_slice.result.now (subst (BuildsEach (named_in c.args.env.now.table c.args.names.now) c.args.env.now c.build_all.new.env (exprs (map plain c.args.arguments.now))) (sym c.as_slice.ensures) c.in_ok-terms.ensures.built) _ c.in_ok-t.ensures.built)

pub build_let-returns-clause-parts : goal.build_let-returns-clause-parts
build_let-returns-clause-parts t c =
    let_parts (named_in c.args.env.now.table c.args.names.now) c.args.env.now c.build_bound.new.env c.build_one-answer.new.env c.args.place (binds (map plain_bind c.args.bindings.now)) (plain c.args.body.now) (once_by c.args.bindings.now c.in_ok-again.field-0 c.in_default.not-Some c.in_ok-again.ensures.none) c.misfits.ensures.typed c.in_ok-bind_all.ensures.ok.0 (λ s named. c.in_ok-terms.ensures.built.each s named c.in_ok-bind_all.ensures.ok.0 (c.in_ok-bind_all.ensures.ok.2 ∙ sym (names_same c.args.bindings.now)) (c.in_ok-bind_all.ensures.ok.3 ∙ c.as_slice.ensures)) c.build_bound.ensures.grown c.build_bound.new.parts c.build_one-answer.new.parts c.build_one-answer.ensures.grown c.args.parts.now c.build_one-answer.result c.in_ok-terms.ensures.parts (subst (λ ns. IfOk c.build_one-answer.result (λ t. AddsParts ns c.build_bound.new.env.table c.build_one-answer.new.env.table (plain c.args.body.now) c.build_bound.new.parts c.build_one-answer.new.parts)) (ap (named_in c.build_bound.new.env.table) c.in_ok-bind_all.ensures.ok.1 ∙ ap (λ ns. with_bound ns c.in_ok-bind_all.ensures.ok.0) (names_on c.build_bound.ensures.grown c.build_bound.ensures.names)) c.build_one-answer.ensures.parts)

pub build_let-returns-clause-kept : goal.build_let-returns-clause-kept
build_let-returns-clause-kept t c =
    let_stays (named_in c.args.env.now.table c.args.names.now) c.args.env.now c.build_bound.new.env c.build_one-answer.new.env c.args.place (binds (map plain_bind c.args.bindings.now)) (plain c.args.body.now) (once_by c.args.bindings.now c.in_ok-again.field-0 c.in_default.not-Some c.in_ok-again.ensures.none) c.misfits.ensures.typed c.in_ok-bind_all.ensures.ok.0 (λ s named. c.in_ok-terms.ensures.built.each s named c.in_ok-bind_all.ensures.ok.0 (c.in_ok-bind_all.ensures.ok.2 ∙ sym (names_same c.args.bindings.now)) (c.in_ok-bind_all.ensures.ok.3 ∙ c.as_slice.ensures)) c.build_bound.ensures.grown c.build_bound.new.parts c.build_one-answer.new.parts c.is_world.ensures.table c.build_one-answer.result (subst (BoundStayWithin (named_in c.args.env.now.table c.args.names.now) c.args.env.now.table c.build_bound.new.env.table c.build_bound.new.parts (binds (map plain_bind c.args.bindings.now))) (paired_back c.in_ok-bind_all.ensures.ok.0 _ _ (c.in_ok-bind_all.ensures.ok.2 ∙ sym (names_same c.args.bindings.now)) (c.in_ok-bind_all.ensures.ok.3 ∙ c.as_slice.ensures)) c.in_ok-terms.ensures.kept) (subst (λ ns. IfOk c.build_one-answer.result (λ t. AddsParts ns c.build_bound.new.env.table c.build_one-answer.new.env.table (plain c.args.body.now) c.build_bound.new.parts c.build_one-answer.new.parts)) (ap (named_in c.build_bound.new.env.table) c.in_ok-bind_all.ensures.ok.1 ∙ ap (λ ns. with_bound ns c.in_ok-bind_all.ensures.ok.0) (names_on c.build_bound.ensures.grown c.build_bound.ensures.names)) c.build_one-answer.ensures.parts) (subst (λ ns. IfOk c.build_one-answer.result (StaysWithin ns c.build_bound.new.env.table c.build_one-answer.new.env.table c.build_one-answer.new.parts (plain c.args.body.now))) (ap (named_in c.build_bound.new.env.table) c.in_ok-bind_all.ensures.ok.1 ∙ ap (λ ns. with_bound ns c.in_ok-bind_all.ensures.ok.0) (names_on c.build_bound.ensures.grown c.build_bound.ensures.names)) c.build_one-answer.ensures.kept)
