use Rattle.std.proofs.Common.{◌≡◌, ◌<◌, ℕ, Some}
use Rattle.std.specs.Prelude.{slice_get, IsSome}
use Rattle.term_shapes.specs.declared.handles.Term.{Term}
use Rattle.term_table.specs.World.{node_at}
use Rattle.term_build.proofs.checking.first_dead.Given as goal

-- the arguments before are live
abbrev pub invariant-loop-place : goal.invariant-loop-place
invariant-loop-place l = (j : ℕ) (t : Term) → j < l.place → slice_get l.arguments j ≡ Some t → IsSome (node_at l.table t)
