-- The values of the first rows.
use Rattle.std.proofs.Common.{◌≡◌, take, map}
use Rattle.simplex_table.specs.Values.{value_of}
use Rattle.simplex_table.specs.View.{deltas}
use Rattle.simplex_table.proofs.Tableau.values.Given as goal

abbrev pub invariant-loop-row : goal.invariant-loop-row
invariant-loop-row l = deltas l.values.items ≡ take l.row-index (map (λ row. value_of row (deltas l.at_columns)) l.row-items)
