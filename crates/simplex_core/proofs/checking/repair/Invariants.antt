-- what a turn keeps
use Rattle.std.proofs.Common.{◌≡◌}
use Rattle.simplex_core.specs.Checking.{Turning, turns_left}
use Rattle.simplex_core.proofs.checking.repair.Given as goal

abbrev pub invariant-loop-multipliers : goal.invariant-loop-multipliers
invariant-loop-multipliers l = record {
  rows : l.tableau.rows ≡ l.fn.tableau.rows;
  turning : Turning l.tableau l.ranges l.run.values.items l.run.spent.value;
}

abbrev pub decreases-loop-multipliers : goal.decreases-loop-multipliers
decreases-loop-multipliers l = turns_left l.tableau l.run.spent.value
