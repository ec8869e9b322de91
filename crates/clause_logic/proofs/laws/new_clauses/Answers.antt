use Rattle.clause_logic.specs.Clauses.{Listed}
use Rattle.clause_logic.proofs.Weakening.{new_holds_none, new_plain}
use Rattle.clause_logic.proofs.laws.new_clauses.Goals as goal

pub returns : goal.returns
returns c = record { holds_none = λ clauses. new_holds_none (Listed clauses); plain = λ clauses. new_plain (Listed clauses) }
