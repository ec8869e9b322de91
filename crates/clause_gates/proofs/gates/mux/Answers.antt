use Rattle.std.proofs.Common.{refl, [], ◌∷◌}
use Rattle.clause_logic.specs.Clauses.{opposite}
use Rattle.clause_gates.specs.Defining.{ite_clauses}
use Rattle.clause_gates.specs.Gates.{choice_clauses}
use Rattle.clause_gates.proofs.Tables.{covered_ok, ite_same, front_listed}
use Rattle.clause_gates.proofs.gates.mux.Goals as goal

pub returns-then-same-clause-clauses : goal.returns-then-same-clause-clauses
returns-then-same-clause-clauses c = ite_same c.args.circuit.now.content.clauses c.args.c c.args.a c.args.b (c.if-same.ensures.0 refl)

pub returns-clause-clauses : goal.returns-clause-clauses
returns-clause-clauses c = covered_ok c.define.result c.define.new.self.content.clauses (λ g. ite_clauses g c.args.c c.args.a c.args.b) (λ g. choice_clauses g c.args.c c.args.a c.args.b)
    (λ g d i. front_listed (ite_clauses g c.args.c c.args.a c.args.b) ((opposite g ∷ c.args.a ∷ c.args.b ∷ []) ∷ (g ∷ opposite c.args.a ∷ opposite c.args.b ∷ []) ∷ []) d i) c.define.ensures.clauses
