use Rattle.term_checks.specs.Building.{AreNodes}
use Rattle.term_checks.proofs.building.problem_of.Given as goal

abbrev pub invariant-loop-term : goal.invariant-loop-term
invariant-loop-term l = AreNodes l.fn.table l.fn.order.keys l.term-index l.problem
