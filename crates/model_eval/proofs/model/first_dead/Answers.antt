use Rattle.std.proofs.Common.{arith}
use Rattle.model_eval.specs.Refusing.{IsDead}
use Rattle.model_eval.proofs.Entries.{first_found, none_more, none_found}
use Rattle.model_eval.proofs.model.first_dead.Goals as goal

pub returns-then-is_dead-clause-some : goal.returns-then-is_dead-clause-some
returns-then-is_dead-clause-some c =
    first_found (IsDead c.args.table.now) c.args.values.now c.loop-place.place _ c.index-values-place.result c.is_dead.result (omega (arith, c.loop-place-test.true)) c.index-values-place.is c.is_dead.ensures c.if-is_dead.true c.loop-place.invariant

pub loop-place-preserved : goal.loop-place-preserved
loop-place-preserved c =
    none_more (IsDead c.args.table.now) c.args.values.now c.loop-place.place _ c.index-values-place.result c.is_dead.result (omega (arith, c.loop-place-test.true)) c.index-values-place.is c.is_dead.ensures c.if-is_dead.false c.loop-place.invariant

pub returns-clause-none : goal.returns-clause-none
returns-clause-none c = none_found (IsDead c.args.table.now) c.args.values.now c.loop-place.place (omega (arith, c.loop-place-test.false)) c.loop-place.invariant
