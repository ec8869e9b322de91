use Rattle.std.proofs.Common.{arith}
use Rattle.model_eval.specs.Refusing.{IsOther}
use Rattle.model_eval.proofs.Entries.{first_found, none_more, none_found}
use Rattle.model_eval.proofs.model.first_other.Goals as goal

pub returns-then-is_other-clause-some : goal.returns-then-is_other-clause-some
returns-then-is_other-clause-some c =
    first_found (IsOther c.args.table.now) c.args.values.now c.loop-place.place _ c.index-values-place.result c.is_other.result (omega (arith, c.loop-place-test.true)) c.index-values-place.is c.is_other.ensures c.if-is_other.true c.loop-place.invariant

pub loop-place-preserved : goal.loop-place-preserved
loop-place-preserved c =
    none_more (IsOther c.args.table.now) c.args.values.now c.loop-place.place _ c.index-values-place.result c.is_other.result (omega (arith, c.loop-place-test.true)) c.index-values-place.is c.is_other.ensures c.if-is_other.false c.loop-place.invariant

pub returns-clause-none : goal.returns-clause-none
returns-clause-none c = none_found (IsOther c.args.table.now) c.args.values.now c.loop-place.place (omega (arith, c.loop-place-test.false)) c.loop-place.invariant
