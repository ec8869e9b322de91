use Rattle.std.proofs.Common.{◌≡◌, take, filter}
use Rattle.term_shapes.specs.declared.handles.Term.{Term}
use Rattle.term_table.specs.World.{shape_at}
use Rattle.term_orders.specs.Orders.{is_constant_shape}
use Rattle.term_orders.proofs.choosing.constants_among.Given as goal

abbrev pub invariant-loop-term : goal.invariant-loop-term
invariant-loop-term l = l.constants ≡ filter (λ (t : Term). is_constant_shape (shape_at l.table t)) (take l.term-index l.terms)
