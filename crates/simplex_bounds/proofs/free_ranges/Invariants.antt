-- so many ranges, none with bounds
use Rattle.simplex_bounds.specs.Ranges.{AllFree}
use Rattle.simplex_bounds.proofs.free_ranges.Given as goal

abbrev pub invariant-loop-made : goal.invariant-loop-made
invariant-loop-made l = AllFree l._made l.ranges.items
