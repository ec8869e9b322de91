use Rattle.std.proofs.Common.{◌≡◌, ◌<◌, ℕ, List, Some}
use Rattle.std.specs.Prelude.{slice_get}
use Rattle.y_tree.specs.Sorts.{Sort, bit_vector}
use Rattle.term_shapes.specs.Shapes.{args_of}
use Rattle.term_table.specs.Checking.{HaveSorts}
use Rattle.term_table.proofs.table.Table.other_width.Given as goal

-- the bit-vectors before have the width of the first
abbrev pub invariant-loop-place : goal.invariant-loop-place
invariant-loop-place l = (ks : List Sort) → HaveSorts l.self (args_of l.shape) ks → (j m : ℕ) → j < l.place → slice_get ks j ≡ Some (bit_vector m) → l.left ≡ m
