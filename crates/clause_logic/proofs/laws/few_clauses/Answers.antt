use Rattle.clause_logic.proofs.Bound.{few_clauses}
use Rattle.clause_logic.proofs.laws.few_clauses.Goals as goal

pub returns : goal.returns
returns c = few_clauses
