use Rattle.simplex_bounds.proofs.RangeLemmas.{all_straight}
use Rattle.std.proofs.Common.{arith}
use Rattle.simplex_bounds.proofs.first_crossing.Goals as goal

pub returns-clause-none : goal.returns-clause-none
returns-clause-none c = λ v. all_straight c.args.ranges.now c.loop-range.range-index v (omega arith) c.loop-range.invariant
