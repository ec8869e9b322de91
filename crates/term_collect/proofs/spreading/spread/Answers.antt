use Rattle.std.proofs.Common.{sym, subst}
use Rattle.term_collect.specs.Marking.{Spreads}
use Rattle.term_collect.proofs.Worklist.{spreading_starts, spreading_goes_on, spreading_ends}
use Rattle.term_collect.proofs.spreading.spread.Goals as goal

pub loop-next-init : goal.loop-next-init
loop-next-init c = spreading_starts c.args.table.now c.requires

pub loop-next-preserved : goal.loop-next-preserved
loop-next-preserved c =
    spreading_goes_on c.args.table.now c.loop-next.table c.next_handle.new.table c.mark_needs.new.table c.in-Some.next c.loop-next.invariant c.in-Some.ensures.some c.mark_needs.ensures

pub returns : goal.returns
returns c =
    subst (Spreads c.args.table.now) (sym c.in_default.ensures.same) (spreading_ends c.args.table.now c.loop-next.table c.loop-next.invariant c.in_default.ensures.none)
