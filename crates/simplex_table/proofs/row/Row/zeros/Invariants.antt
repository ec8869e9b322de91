-- The columns so far.
use Rattle.std.proofs.Common.{◌≡◌}
use Rattle.simplex_logic.specs.Vectors.{zeros}
use Rattle.simplex_table.proofs.row.Row.zeros.Given as goal

abbrev pub invariant-loop-column : goal.invariant-loop-column
invariant-loop-column l = l.entries.items ≡ zeros l._column
