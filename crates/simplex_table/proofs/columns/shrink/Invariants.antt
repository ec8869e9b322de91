-- The rows from v on are as they were.
use Rattle.std.proofs.Common.{◌≡◌, ◌≤◌, List, vec_len, vec_capacity}
use Rattle.rationals.specs.Rational.{ℚ}
use Rattle.simplex_table.specs.Columns.{map_first, with_zero}
use Rattle.simplex_table.proofs.columns.shrink.Given as goal

abbrev pub invariant-loop-v : goal.invariant-loop-v
invariant-loop-v l = record {
  rows : (rows : List (List ℚ)) → l.fn.table.items ≡ map_first with_zero l.fn.count rows → l.table.items ≡ map_first with_zero l.v rows;
  len : vec_len l.table ≡ vec_len l.fn.table;
  room : vec_capacity l.fn.table ≤ vec_capacity l.table;
  inside : l.v ≤ l.fn.count;
}

abbrev pub decreases-loop-v : goal.decreases-loop-v
decreases-loop-v l = l.v
