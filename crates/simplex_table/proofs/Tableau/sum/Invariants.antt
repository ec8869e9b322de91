-- The sum over the first terms.
use Rattle.std.proofs.Common.{◌≡◌, length, take}
use Rattle.simplex_logic.specs.Vectors.{summed, zeros}
use Rattle.simplex_table.specs.View.{form_of, row_at}
use Rattle.simplex_table.proofs.Tableau.sum.Given as goal

abbrev pub invariant-loop-variable : goal.invariant-loop-variable
invariant-loop-variable l = l.sum ≡ summed (row_at l.self.table) (zeros (length l.self.columns)) (form_of (take l.variable-index l.row))
