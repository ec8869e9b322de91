use Rattle.clause_gates.proofs.Keeping.{gates_exact, gates_suffice}
use Rattle.clause_gates.proofs.laws.gates_tell.Goals as goal

pub returns-clause-hold : goal.returns-clause-hold
returns-clause-hold c = λ b s v g is whole h has. gates_exact b is whole s h v g has

pub returns-clause-suffice : goal.returns-clause-suffice
returns-clause-suffice c = λ b s is given values. gates_suffice b is s given values
