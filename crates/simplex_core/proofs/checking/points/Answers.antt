use Rattle.std.proofs.Common.{arith}
use Rattle.simplex_core.proofs.PointLemmas.{point_next}
use Rattle.simplex_core.proofs.checking.points.Goals as goal

pub loop-column-preserved : goal.loop-column-preserved
loop-column-preserved c =
    let i = c.requires c.loop-column.column-index (omega arith) in
    point_next c.loop-column.column-index c.args.columns.now c.args.values.now c.loop-column.found.items c.push.new.self.items c.index-values-column.result (omega arith) i c.index-values-column.is c.in_ok-push.ensures.items c.loop-column.invariant
