-- The columns below k are done.
use Rattle.std.proofs.Common.{◌≡◌, take}
use Rattle.simplex_logic.specs.Vectors.{add_rows, scale_row}
use Rattle.simplex_table.proofs.row.Row.summed.Given as goal

abbrev pub invariant-loop-k : goal.invariant-loop-k
invariant-loop-k l = l.entries.items ≡ take l.k (add_rows l.self (scale_row l.by l.row))
