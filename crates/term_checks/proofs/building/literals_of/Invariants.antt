use Rattle.term_checks.specs.Building.{AreLiteralsOf}
use Rattle.term_checks.proofs.building.literals_of.Given as goal

abbrev pub invariant-loop-term : goal.invariant-loop-term
invariant-loop-term l = AreLiteralsOf l.order.keys l.terms l.term-index l.lits.items
