use Rattle.std.proofs.Common.{◌≡◌, ◌<◌, ℕ, List, Some, true}
use Rattle.std.specs.Prelude.{slice_get}
use Rattle.y_tree.specs.Sorts.{Sort}
use Rattle.y_tree.specs.Misfits.{Wanted, row_of, fits}
use Rattle.y_tree.specs.Laws.{wanted_behind}
use Rattle.term_shapes.specs.Shapes.{args_of}
use Rattle.shape_rules.specs.Rules.{operator}
use Rattle.term_table.specs.Checking.{HaveSorts}
use Rattle.term_table.proofs.table.Table.wrong_type.Given as goal

-- the arguments before are what is wanted
abbrev pub invariant-loop-place : goal.invariant-loop-place
invariant-loop-place l = (ks : List Sort) → HaveSorts l.self (args_of l.shape) ks → (j : ℕ) (v : Wanted) (k : Sort) → j < l.place → wanted_behind (row_of (operator l.shape) ks) j ≡ Some v → slice_get ks j ≡ Some k → fits v k ≡ true
