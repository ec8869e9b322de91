use Rattle.std.proofs.Common.{arith}
use Rattle.term_shapes.specs.Shapes.{args_of}
use Rattle.term_collect.proofs.Sets.{no_terms, next_argument, all_terms}
use Rattle.term_collect.proofs.walking.mark_arguments.Goals as goal

pub loop-place-init : goal.loop-place-init
loop-place-init c n has = no_terms _ (args_of n.shape)

pub loop-place-preserved : goal.loop-place-preserved
loop-place-preserved c =
    next_argument c.args.table.now c.loop-place.table c.mark_argument.new.table c.args.t c.loop-place.place c.loop-place.invariant c.mark_argument.ensures

pub returns : goal.returns
returns c n has =
    let number = c.count_arguments-count.ensures n has in
    all_terms c.args.table.now c.loop-place.table (args_of n.shape) c.loop-place.place (omega (arith, number)) (c.loop-place.invariant n has)
