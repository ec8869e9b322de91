use Rattle.std.proofs.Common.{}
use Rattle.clause_logic.specs.Clauses.{Listed}
use Rattle.clause_trail.specs.Shortening.{AreFound, AllFalsified}
use Rattle.clause_trail.proofs.shortening.Findings.is_redundant.Given as goal

abbrev pub invariant-loop-made : goal.invariant-loop-made
invariant-loop-made l = AreFound (Listed l.state.clauses.items) l.state.order.items l.lits l.self.found.items × AllFalsified l.state.order.items l.self.waiting.items
