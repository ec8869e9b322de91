use Rattle.clause_logic.specs.Clauses.{Listed}
use Rattle.clause_logic.proofs.Extending.{new_stays}
use Rattle.clause_logic.proofs.laws.extension.Goals as goal

pub returns : goal.returns
returns c = λ old added v d older defines over. new_stays (Listed old) (Listed added) v older defines d over
