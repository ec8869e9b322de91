use Rattle.std.proofs.Common.{◌∙◌, sym, subst}
use Rattle.term_sketches.specs.Sketches.{operator_of}
use Rattle.term_build.specs.Building.{RefusesCall}
use Rattle.term_build.proofs.Calls.{bad_count, shape_fits, shape_refused}
use Rattle.term_build.proofs.checking.check_call.Goals as goal

pub returns-then-not-takes-clause-err : goal.returns-then-not-takes-clause-err
returns-then-not-takes-clause-err c = λ new.
    bad_count c.args.table.now new c.is_table.ensures c.args.operator c.args.arguments.now c.in_default.ensures.live (c.is_empty_call.ensures.no c.if-is_empty_call.false)
    (sym c.takes.ensures ∙ c.if-not-takes.true)

pub returns-in-Ok-check_shape-clause-ok : goal.returns-in-Ok-check_shape-clause-ok
returns-in-Ok-check_shape-clause-ok c =
    shape_fits c.misfits.ensures.typed c.args.table.now (operator_of c.args.operator) c.args.arguments.now c.in-Ok.shape c.in-Ok-check_shape.field-0 c.in-Ok.ensures c.in-Ok-check_shape.ensures.ok

pub returns-clause-err : goal.returns-clause-err
returns-clause-err c = λ new.
    subst (RefusesCall c.args.table.now new (operator_of c.args.operator) c.args.arguments.now) (sym c.from_shape.ensures)
    (shape_refused c.args.table.now new (operator_of c.args.operator) c.args.arguments.now c.in-Ok.shape c.in-Err.e c.in-Ok.ensures c.in-Err.ensures.err)
