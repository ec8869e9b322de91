use Rattle.std.proofs.Common.{◌≡◌, ℕ, ◌<◌, Some}
use Rattle.std.specs.Prelude.{slice_get}
use Rattle.term_shapes.specs.declared.handles.Term.{Term}
use Rattle.term_orders.specs.Orders.{IsBelow, IsVariable}
use Rattle.context_stack.proofs.judging.variable_below_some.Given as goal

abbrev pub invariant-loop-t : goal.invariant-loop-t
invariant-loop-t l = (k : ℕ) (u v : Term) → k < l.t-index → slice_get l.terms k ≡ Some u → IsBelow l.table v u → IsVariable l.table v → ⊥
