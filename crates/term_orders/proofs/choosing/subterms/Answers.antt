use Rattle.std.proofs.Common.{◌∙◌, sym, subst}
use Rattle.term_orders.specs.Orders.{IsOrder}
use Rattle.term_orders.proofs.choosing.subterms.Goals as goal

pub returns : goal.returns
returns c =
    subst (IsOrder c.args.table.now c.args.roots.now) (sym (c.in_ok-terms.ensures ∙ c.as_slice.ensures.keys)) c.in_ok-order.ensures
