use Rattle.std.proofs.Common.{arith}
use Rattle.simplex_core.proofs.PointLemmas.{start_next}
use Rattle.simplex_core.proofs.checking.starts.Goals as goal

pub loop-column-preserved : goal.loop-column-preserved
loop-column-preserved c =
    let i = c.requires.named c.loop-column.column-index (omega arith) in
    start_next c.loop-column.column-index c.args.columns.now c.args.ranges.now c.loop-column.found.items c.push.new.self.items c.index-ranges-column.result c.start.result (omega arith) i c.index-ranges-column.is c.in_ok-push.ensures.items
    c.start.ensures.in_range c.start.ensures.stands c.loop-column.invariant
