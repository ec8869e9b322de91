use Rattle.std.proofs.Common.{arith}
use Rattle.term_shapes.specs.Shapes.{parts_of}
use Rattle.term_collect.proofs.Sets.{no_types, next_part, all_types}
use Rattle.term_collect.proofs.walking.mark_parts.Goals as goal

pub loop-place-init : goal.loop-place-init
loop-place-init c s has = no_types _ (parts_of s)

pub loop-place-preserved : goal.loop-place-preserved
loop-place-preserved c =
    next_part c.args.table.now c.loop-place.table c.mark_part.new.table c.args.t c.loop-place.place c.loop-place.invariant c.mark_part.ensures

pub returns : goal.returns
returns c s has =
    let number = c.count_parts-count.ensures s has in
    all_types c.args.table.now c.loop-place.table (parts_of s) c.loop-place.place (omega (arith, number)) (c.loop-place.invariant s has)
