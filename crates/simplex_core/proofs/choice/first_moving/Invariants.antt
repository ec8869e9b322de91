-- the columns passed are stuck
use Rattle.std.proofs.Common.{ℕ, ◌<◌, get_or}
use Rattle.simplex_logic.specs.Limits.{Stuck, turned}
use Rattle.simplex_logic.specs.Vectors.{at}
use Rattle.simplex_table.specs.View.{delta_at}
use Rattle.simplex_bounds.specs.Ranges.{limits_of}
use Rattle.simplex_core.proofs.choice.first_moving.Given as goal

abbrev pub invariant-loop-k : goal.invariant-loop-k
invariant-loop-k l = (k : ℕ) → k < l.k → let c = get_or l.columns k 0 in Stuck (turned l.rises (at l.row k)) ((limits_of l.ranges).low c) ((limits_of l.ranges).up c) (delta_at l.values c)
