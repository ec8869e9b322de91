use Rattle.simplex_bounds.proofs.RangeLemmas.{one_more_free}
use Rattle.simplex_bounds.proofs.free_ranges.Goals as goal

pub loop-made-preserved : goal.loop-made-preserved
loop-made-preserved c = one_more_free c.loop-made._made c.loop-made.ranges.items c.push.new.self.items c.loop-made.invariant c.in_ok-push.ensures.items
