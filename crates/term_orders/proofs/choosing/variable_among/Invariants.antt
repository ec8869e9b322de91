use Rattle.std.proofs.Common.{◌≡◌, ◌<◌, ℕ, Some}
use Rattle.std.specs.Prelude.{slice_get}
use Rattle.term_shapes.specs.declared.handles.Term.{Term}
use Rattle.term_orders.specs.Orders.{IsVariable}
use Rattle.term_orders.proofs.choosing.variable_among.Given as goal

abbrev pub invariant-loop-term : goal.invariant-loop-term
invariant-loop-term l = (j : ℕ) (u : Term) → j < l.term-index → slice_get l.terms j ≡ Some u → IsVariable l.table u → ⊥
