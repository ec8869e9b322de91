use Rattle.std.proofs.Common.{arith}
use Rattle.std.proofs.lemmas.List.{get_or_read}
use Rattle.simplex_bounds.specs.Ranges.{free}
use Rattle.simplex_bounds.proofs.RangeLemmas.{ranged_next, listed_at}
use Rattle.simplex_bounds.proofs.ranges_of.Goals as goal

pub index-range-requires : goal.index-range-requires
index-range-requires c =
    let i = c.requires c.bound-item.result (listed_at c.args.bounds.now c.loop-bound.bound-index c.bound-item.result (omega arith) c.bound-item.is) in
    omega (arith, i, c.loop-bound.invariant.long, c.loop-bound.ranges.ok.0)

pub index_mut-requires : goal.index_mut-requires
index_mut-requires c =
    let i = c.requires c.bound-item.result (listed_at c.args.bounds.now c.loop-bound.bound-index c.bound-item.result (omega arith) c.bound-item.is) in
    omega (arith, i, c.loop-bound.invariant.long, c.loop-bound.ranges.ok.0)

pub loop-bound-preserved : goal.loop-bound-preserved
loop-bound-preserved c =
    let i = c.requires c.bound-item.result (listed_at c.args.bounds.now c.loop-bound.bound-index c.bound-item.result (omega arith) c.bound-item.is) in
    let q = c.index-range.ensures in
    ranged_next c.args.count c.loop-bound.bound-index c.args.bounds.now c.loop-bound.ranges.items c.bound-item.result c.index-range.result.now c.tightened.result (omega arith) c.bound-item.is i c.loop-bound.invariant
    (get_or_read c.loop-bound.ranges.items _ _ (omega (arith, i, c.loop-bound.invariant.long)) q free) c.tightened.ensures
