use Rattle.clause_logic.specs.Clauses.{Listed}
use Rattle.clause_trail.specs.Shortening.{AreFound}
use Rattle.clause_trail.proofs.shortening.begin.Given as goal

abbrev pub invariant-loop-lit : goal.invariant-loop-lit
invariant-loop-lit l = AreFound (Listed l.state.clauses.items) l.state.order.items l.lits l.found.items
