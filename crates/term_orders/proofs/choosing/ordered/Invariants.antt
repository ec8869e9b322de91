use Rattle.std.proofs.Common.{take}
use Rattle.term_orders.specs.Orders.{IsOrder}
use Rattle.term_orders.proofs.choosing.ordered.Given as goal

abbrev pub invariant-loop-root : goal.invariant-loop-root
invariant-loop-root l = IsOrder l.table (take l.root-index l.roots) l.order.keys
