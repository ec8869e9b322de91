use Rattle.term_checks.proofs.Models.{values_more}
use Rattle.term_checks.proofs.building.values_of.Goals as goal

pub loop-node-preserved : goal.loop-node-preserved
loop-node-preserved c =
    values_more c.args.order.now c.args.values.now c.loop-node.node-index c.loop-node.found c.push.new.self c.loop-node-test.true c.loop-node.invariant c.in_ok-push.ensures.ok
