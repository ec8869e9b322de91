-- The rows before v are done.
use Rattle.std.proofs.Common.{◌≡◌}
use Rattle.simplex_logic.specs.Vectors.{flip}
use Rattle.simplex_table.specs.Columns.{map_first}
use Rattle.simplex_table.proofs.columns.flip_all.Given as goal

abbrev pub invariant-loop-v : goal.invariant-loop-v
invariant-loop-v l = l.table.items ≡ map_first (flip l.column) l.v l.initial.table.items
