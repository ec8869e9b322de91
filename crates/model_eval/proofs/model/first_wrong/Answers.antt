use Rattle.std.proofs.Common.{arith}
use Rattle.model_eval.specs.Refusing.{IsWrong}
use Rattle.model_eval.proofs.Entries.{first_found, none_more, none_found}
use Rattle.model_eval.proofs.model.first_wrong.Goals as goal

pub returns-then-branch-clause-some : goal.returns-then-branch-clause-some
returns-then-branch-clause-some c =
    first_found (IsWrong c.args.table.now) c.args.values.now c.loop-place.place _ c.index-values-place.result c.in_ok-is_wrong.field-0 (omega (arith, c.loop-place-test.true)) c.index-values-place.is c.in_ok-is_wrong.ensures c.if-branch.true c.loop-place.invariant

pub loop-place-preserved : goal.loop-place-preserved
loop-place-preserved c =
    none_more (IsWrong c.args.table.now) c.args.values.now c.loop-place.place _ c.index-values-place.result c.in_ok-is_wrong.field-0 (omega (arith, c.loop-place-test.true)) c.index-values-place.is c.in_ok-is_wrong.ensures c.if-branch.false c.loop-place.invariant

pub returns-clause-none : goal.returns-clause-none
returns-clause-none c = none_found (IsWrong c.args.table.now) c.args.values.now c.loop-place.place (omega (arith, c.loop-place-test.false)) c.loop-place.invariant
