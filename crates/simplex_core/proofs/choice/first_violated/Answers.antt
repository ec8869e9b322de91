use Rattle.std.proofs.Common.{arith}
use Rattle.simplex_core.proofs.ChoiceLemmas.{violated_here, within_next, all_within}
use Rattle.simplex_core.proofs.choice.first_violated.Goals as goal

pub returns-in-Some-clause-some : goal.returns-in-Some-clause-some
returns-in-Some-clause-some c =
    violated_here c.args.ranges.now c.args.values.now c.loop-v.v c.index-ranges-v.result c.index-values-v.result c.in-Some.bound (omega arith) c.requires c.index-ranges-v.is c.index-values-v.is c.loop-v.invariant c.in-Some.ensures.some

pub loop-v-preserved : goal.loop-v-preserved
loop-v-preserved c =
    within_next c.args.ranges.now c.args.values.now c.loop-v.v c.index-ranges-v.result c.index-values-v.result (omega arith) c.requires c.index-ranges-v.is c.index-values-v.is c.loop-v.invariant c.in_default.ensures.none

pub returns-clause-none : goal.returns-clause-none
returns-clause-none c = all_within c.args.ranges.now c.args.values.now c.loop-v.v (omega arith) c.loop-v.invariant
