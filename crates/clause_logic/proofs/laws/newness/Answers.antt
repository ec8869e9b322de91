use Rattle.clause_logic.specs.Clauses.{Listed}
use Rattle.clause_logic.proofs.Learning.{learned_new}
use Rattle.clause_logic.proofs.laws.newness.Goals as goal

pub returns : goal.returns
returns c = λ order places from clauses start d placed learned complete. learned_new order places placed (Listed from) start d learned (Listed clauses) complete
