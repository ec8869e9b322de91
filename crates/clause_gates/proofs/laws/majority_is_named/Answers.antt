use Rattle.clause_gates.proofs.Carries.{majority_named}
use Rattle.clause_gates.proofs.laws.majority_is_named.Goals as goal

pub returns : goal.returns
returns c = majority_named
