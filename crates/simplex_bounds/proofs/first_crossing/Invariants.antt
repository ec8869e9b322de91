-- the ranges passed are straight
use Rattle.std.proofs.Common.{ℕ, ◌<◌}
use Rattle.simplex_bounds.specs.Ranges.{range_at, IsStraight}
use Rattle.simplex_bounds.proofs.first_crossing.Given as goal

abbrev pub invariant-loop-range : goal.invariant-loop-range
invariant-loop-range l = (k : ℕ) → k < l.range-index → IsStraight (range_at l.ranges k)
