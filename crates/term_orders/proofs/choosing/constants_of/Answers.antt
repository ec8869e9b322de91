use Rattle.std.proofs.Common.{sym, subst}
use Rattle.term_orders.specs.Orders.{IsOrder}
use Rattle.term_orders.proofs.Chosen.{chosen_are}
use Rattle.term_orders.proofs.choosing.constants_of.Goals as goal

pub returns : goal.returns
returns c =
    chosen_are c.args.table.now c.args.roots.now c.as_slice.result.now _ (subst (IsOrder c.args.table.now c.args.roots.now) (sym c.as_slice.ensures) c.in_ok-order.ensures) c.in_ok-constants.ensures
