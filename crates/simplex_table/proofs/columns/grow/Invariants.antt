-- The rows before v are done.
use Rattle.std.proofs.Common.{◌≡◌, ◌≤◌, vec_len, vec_capacity}
use Rattle.simplex_table.specs.Columns.{map_first, with_zero}
use Rattle.simplex_table.proofs.columns.grow.Given as goal

abbrev pub invariant-loop-v : goal.invariant-loop-v
invariant-loop-v l = record {
  rows : l.table.items ≡ map_first with_zero l.v l.initial.table.items;
  len : vec_len l.table ≡ vec_len l.initial.table;
  room : vec_capacity l.initial.table ≤ vec_capacity l.table;
}
