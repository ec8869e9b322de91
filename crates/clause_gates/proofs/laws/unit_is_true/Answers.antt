use Rattle.clause_gates.proofs.Growth.{unit_true}
use Rattle.clause_gates.proofs.laws.unit_is_true.Goals as goal

pub returns : goal.returns
returns c = unit_true
