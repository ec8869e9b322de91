use Rattle.std.proofs.Common.{arith, subst}
use Rattle.clause_logic.specs.Clauses.{Models, Listed}
use Rattle.clause_gates.proofs.Growth.{models_front}
use Rattle.clause_gates.proofs.laws.facts_stay.Goals as goal

pub returns-clause-models : goal.returns-clause-models
returns-clause-models c = λ a b s g h. models_front s a.clauses g.added (subst (λ cs. Models s (Listed cs)) g.clauses h)

pub returns-clause-bits : goal.returns-clause-bits
returns-clause-bits c = λ a b l f g h. record { known = omega (arith, h.known, g.vars); is = λ s m. h.is s (models_front s a.clauses g.added (subst (λ cs. Models s (Listed cs)) g.clauses m)) }
