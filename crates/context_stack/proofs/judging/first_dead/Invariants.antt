use Rattle.std.proofs.Common.{◌≡◌, ℕ, ◌<◌, Some}
use Rattle.std.specs.Prelude.{IsSome, slice_get}
use Rattle.term_shapes.specs.declared.handles.Term.{Term}
use Rattle.term_table.specs.World.{node_at}
use Rattle.context_stack.proofs.judging.first_dead.Given as goal

abbrev pub invariant-loop-i : goal.invariant-loop-i
invariant-loop-i l = (k : ℕ) (u : Term) → k < l.i → slice_get l.terms k ≡ Some u → IsSome (node_at l.table u)
