use Rattle.std.proofs.Common.{List}
use Rattle.term_shapes.specs.declared.handles.Term.{Term}
use Rattle.term_orders.specs.Orders.{IsOrder}
use Rattle.term_orders.proofs.Costs.{left_on}
use Rattle.term_orders.proofs.Walking.{Walking}
use Rattle.term_orders.proofs.walk.walk_below.Given as goal

abbrev pub invariant-loop-frame : goal.invariant-loop-frame
invariant-loop-frame l = (roots : List Term) → IsOrder l.grounded.table.now roots l.fn.order.keys → Walking l.grounded.table.now roots l.fn.root l.stack.items l.order.keys

abbrev pub decreases-loop-frame : goal.decreases-loop-frame
decreases-loop-frame l = left_on l.grounded.table.now l.grounded.ends l.stack.items
