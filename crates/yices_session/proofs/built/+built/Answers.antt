use Rattle.std.proofs.Common.{rules, sym, ◌∙◌}
use Rattle.yices_session.proofs.Forms.{operation_then, operation_else, let_then, let_else, apply_then, apply_else, call_then, call_else, update_then, update_else, built_more, built_stop, built_all, bound_more, bound_stop, bound_all}
use Rattle.yices_session.proofs.built.+built.Goals.{is_built_expr-then-is_built_expr-2, is_built_expr-else-is_built_expr-2}
use Rattle.yices_session.proofs.built.+built.Goals as goal

pub is_built_expr-returns-then-is_built_operator : goal.is_built_expr-returns-then-is_built_operator
is_built_expr-returns-then-is_built_operator t c =
    operation_then c.args.expr.now c.in-Op.op c.in-Op.arguments c.as_slice.result.now c.is_built_operator.result c.are_built.result c.in-Op.is c.as_slice.ensures c.is_built_operator.ensures c.if-is_built_operator.true
    c.are_built.ensures

pub is_built_expr-returns-else-is_built_operator : goal.is_built_expr-returns-else-is_built_operator
is_built_expr-returns-else-is_built_operator t c =
    operation_else c.args.expr.now c.in-Op.op c.in-Op.arguments c.is_built_operator.result c.in-Op.is c.is_built_operator.ensures c.if-is_built_operator.false

pub is_built_expr-returns-then-are_binds_built : goal.is_built_expr-returns-then-are_binds_built
is_built_expr-returns-then-are_binds_built t c =
    let_then c.args.expr.now c.in-Let.bindings c.as_slice-in-Let.result.now c.in-Let.body c.get.result.now c.are_binds_built.result c.is_built_expr.result c.in-Let.is c.as_slice-in-Let.ensures c.get.ensures c.are_binds_built.ensures
    c.if-are_binds_built.true c.is_built_expr.ensures

pub is_built_expr-returns-else-are_binds_built : goal.is_built_expr-returns-else-are_binds_built
is_built_expr-returns-else-are_binds_built t c =
    let_else c.args.expr.now c.in-Let.bindings c.as_slice-in-Let.result.now c.in-Let.body c.are_binds_built.result c.in-Let.is c.as_slice-in-Let.ensures c.are_binds_built.ensures c.if-are_binds_built.false

pub is_built_expr-returns-then-is_built_expr : goal.is_built_expr-returns-then-is_built_expr
is_built_expr-returns-then-is_built_expr t c =
    apply_then c.args.expr.now c.in-Apply.function c.get-in-Apply.result.now c.in-Apply.arguments c.as_slice-then-is_built_expr.result.now c.is_built_expr-in-Apply.result c.are_built-then-is_built_expr.result
    c.in-Apply.is c.get-in-Apply.ensures c.as_slice-then-is_built_expr.ensures c.is_built_expr-in-Apply.ensures c.if-is_built_expr.true c.are_built-then-is_built_expr.ensures

pub is_built_expr-returns-else-is_built_expr : goal.is_built_expr-returns-else-is_built_expr
is_built_expr-returns-else-is_built_expr t c =
    apply_else c.args.expr.now c.in-Apply.function c.get-in-Apply.result.now c.in-Apply.arguments c.is_built_expr-in-Apply.result c.in-Apply.is c.get-in-Apply.ensures c.is_built_expr-in-Apply.ensures c.if-is_built_expr.false

pub is_built_expr-returns-then-are_built : goal.is_built_expr-returns-then-are_built
is_built_expr-returns-then-are_built t c =
    update_then c.args.expr.now c.in-Update.function c.get-in-Update.result.now c.in-Update.arguments c.in-Update.value c.get-then-are_built.result.now c.if-is_built_expr-2.value c.is_built_expr-then-are_built.result
    c.in-Update.is c.get-in-Update.ensures c.get-then-are_built.ensures
    (elim c.if-is_built_expr-2.branch [
      | is_built_expr-then-is_built_expr-2 w ↦ call_then _ _ _ c.is_built_expr-in-Update.result _ _ w.as_slice-then-is_built_expr-2.ensures c.is_built_expr-in-Update.ensures w.if-is_built_expr-2.true w.are_built-then-is_built_expr-2.ensures w.value-is
      | is_built_expr-else-is_built_expr-2 w ↦ call_else _ _ c.is_built_expr-in-Update.result _ c.is_built_expr-in-Update.ensures w.if-is_built_expr-2.false w.value-is
    ])
    c.if-are_built.true c.is_built_expr-then-are_built.ensures

pub is_built_expr-returns-else-are_built : goal.is_built_expr-returns-else-are_built
is_built_expr-returns-else-are_built t c =
    update_else c.args.expr.now c.in-Update.function c.get-in-Update.result.now c.in-Update.arguments c.in-Update.value c.if-is_built_expr-2.value
    c.in-Update.is c.get-in-Update.ensures
    (elim c.if-is_built_expr-2.branch [
      | is_built_expr-then-is_built_expr-2 w ↦ call_then _ _ _ c.is_built_expr-in-Update.result _ _ w.as_slice-then-is_built_expr-2.ensures c.is_built_expr-in-Update.ensures w.if-is_built_expr-2.true w.are_built-then-is_built_expr-2.ensures w.value-is
      | is_built_expr-else-is_built_expr-2 w ↦ call_else _ _ c.is_built_expr-in-Update.result _ c.is_built_expr-in-Update.ensures w.if-is_built_expr-2.false w.value-is
    ])
    c.if-are_built.false

pub are_built-loop-i-preserved : goal.are_built-loop-i-preserved
are_built-loop-i-preserved t c =
    c.loop-i.invariant ∙ built_more _ _ _ c.loop-i-test.true c.index-arguments-i.is (sym c.if-not-is_built_expr.false ∙ c.is_built_expr.ensures)

pub are_built-returns-then-not-is_built_expr : goal.are_built-returns-then-not-is_built_expr
are_built-returns-then-not-is_built_expr t c =
    built_stop _ _ _ c.loop-i-test.true c.index-arguments-i.is (sym c.if-not-is_built_expr.true ∙ c.is_built_expr.ensures) c.loop-i.invariant

pub are_built-returns : goal.are_built-returns
are_built-returns t c = built_all _ _ (search rules) c.loop-i.invariant

pub are_binds_built-loop-i-preserved : goal.are_binds_built-loop-i-preserved
are_binds_built-loop-i-preserved t c =
    c.loop-i.invariant ∙ bound_more c.args.bindings.now c.loop-i.i c.index-bindings-i.result c.loop-i-test.true (sym c.if-not-is_built_expr.false ∙ c.is_built_expr.ensures)

pub are_binds_built-returns-then-not-is_built_expr : goal.are_binds_built-returns-then-not-is_built_expr
are_binds_built-returns-then-not-is_built_expr t c =
    bound_stop c.args.bindings.now c.loop-i.i c.index-bindings-i.result c.loop-i-test.true (sym c.if-not-is_built_expr.true ∙ c.is_built_expr.ensures) c.loop-i.invariant

pub are_binds_built-returns : goal.are_binds_built-returns
are_binds_built-returns t c = bound_all _ _ (search rules) c.loop-i.invariant
