use Rattle.term_collect.specs.Marking.{due}
use Rattle.term_collect.proofs.Worklist.{Spreading}
use Rattle.term_collect.proofs.spreading.spread.Given as goal

abbrev pub invariant-loop-next : goal.invariant-loop-next
invariant-loop-next l = Spreading l.fn.table l.table

abbrev pub decreases-loop-next : goal.decreases-loop-next
decreases-loop-next l = due l.table
