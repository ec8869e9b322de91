use Rattle.std.proofs.Common.{◌≡◌, ℕ, ◌<◌, Some}
use Rattle.std.specs.Prelude.{IsSome, slice_get}
use Rattle.term_shapes.specs.declared.handles.TypeId.{TypeId}
use Rattle.term_table.specs.World.{type_shape_at}
use Rattle.term_collect.proofs.roots.first_dead_type.Given as goal

abbrev pub invariant-loop-i : goal.invariant-loop-i
invariant-loop-i l = (k : ℕ) (u : TypeId) → k < l.i → slice_get l.roots k ≡ Some u → IsSome (type_shape_at l.table u)
