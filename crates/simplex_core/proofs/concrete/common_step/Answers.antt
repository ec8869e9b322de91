use Rattle.std.proofs.Common.{subst, arith}
use Rattle.simplex_core.specs.Concrete.{IsStepWide, low_of, high_of}
use Rattle.simplex_table.specs.View.{delta_of}
use Rattle.simplex_bounds.proofs.RangeLemmas.{listed_at}
use Rattle.simplex_core.proofs.ConcreteLemmas.{first_step, step_next}
use Rattle.simplex_core.proofs.concrete.common_step.Goals as goal

pub loop-bound-init : goal.loop-bound-init
loop-bound-init c = first_step c.args.values.now c.one-step.result c.one-step.ensures

pub returns-in-Err-clause-wide : goal.returns-in-Err-clause-wide
returns-in-Err-clause-wide c =
    let b = c.bound-item.result in
    record {
      bound = b;
      listed = listed_at c.args.bounds.now c.loop-bound.bound-index b (omega arith) c.bound-item.is;
      by = subst (λ z. IsStepWide (low_of b.upper (delta_of b.value) z) (high_of b.upper (delta_of b.value) z) c.in-Err.wide) c.value_of-at.ensures c.in-Err.ensures.wide;
    }

pub loop-bound-preserved : goal.loop-bound-preserved
loop-bound-preserved c =
    step_next c.loop-bound.bound-index c.args.bounds.now c.bound-item.result c.args.values.now c.value_of-at.result c.loop-bound.step c.least-step.result c.in-Ok.limit (omega arith) c.bound-item.is c.value_of-at.ensures c.requires c.loop-bound.invariant
    c.in-Ok.ensures.ok c.least-step.ensures
