use Rattle.term_orders.proofs.Members.{put_is}
use Rattle.term_checks.proofs.lists.put.Goals as goal

pub returns : goal.returns
returns c =
    put_is c.args.order.now.keys c.insert.new.self.keys c.args.t c.in_ok-insert.ensures.keys
