-- The columns rise but for the one in this place.
use Rattle.std.proofs.Common.{◌-◌, length}
use Rattle.simplex_table.specs.Columns.{HaveLength, Reordered, RisesBut}
use Rattle.simplex_table.proofs.columns.settle_up.Given as goal

abbrev pub invariant-loop-place : goal.invariant-loop-place
invariant-loop-place l = record {
  rises : RisesBut l.place l.columns.items;
  same : Reordered l.fn.columns.items l.fn.table.items l.columns.items l.table.items;
  same_length : HaveLength (length l.columns.items) l.table.items;
}

abbrev pub decreases-loop-place : goal.decreases-loop-place
decreases-loop-place l = length l.columns.items - l.place
