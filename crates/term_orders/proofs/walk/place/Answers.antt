use Rattle.term_orders.proofs.Walking.{walking_none}
use Rattle.term_orders.proofs.walk.place.Goals as goal

pub returns-then-is_placed : goal.returns-then-is_placed
returns-then-is_placed c = λ rs o.
    walking_none c.args.grounded.now.table.now rs c.args.root c.args.order.now.keys (c.is_placed.ensures.0 c.if-is_placed.true) o
