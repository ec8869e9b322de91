-- The rows before v are done.
use Rattle.std.proofs.Common.{◌≡◌, take, map}
use Rattle.simplex_logic.specs.Vectors.{replaced}
use Rattle.simplex_table.proofs.columns.replace_all.Given as goal

abbrev pub invariant-loop-v : goal.invariant-loop-v
invariant-loop-v l = l.rows.items ≡ take l.v (map (replaced l.column l.pivot) l.table)
