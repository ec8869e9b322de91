-- the values passed are in their ranges
use Rattle.std.proofs.Common.{ℕ, ◌<◌}
use Rattle.simplex_table.specs.View.{delta_at}
use Rattle.simplex_bounds.specs.Ranges.{range_at, InRange}
use Rattle.simplex_core.proofs.choice.first_violated.Given as goal

abbrev pub invariant-loop-v : goal.invariant-loop-v
invariant-loop-v l = (x : ℕ) → x < l.v → InRange (range_at l.ranges x) (delta_at l.values x)
