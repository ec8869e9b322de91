use Rattle.std.proofs.Common.{◌≡◌, ◌≤◌, ◌*◌, List, take}
use Rattle.y_tree.specs.Sorts.{Sort}
use Rattle.y_tree.specs.Misfits.{all_widths}
use Rattle.term_shapes.specs.Shapes.{args_of}
use Rattle.term_table.specs.Checking.{HaveSorts}
use Rattle.term_table.proofs.table.Table.all_widths.Given as goal

-- the widths before are summed
abbrev pub invariant-loop-place : goal.invariant-loop-place
invariant-loop-place l = (l.sum ≤ l.place * 4294967296) × ((ks : List Sort) → HaveSorts l.self (args_of l.shape) ks → l.sum ≡ all_widths (take l.place ks))
