use Rattle.std.proofs.Common.{refl}
use Rattle.clause_gates.specs.Defining.{and_clauses}
use Rattle.clause_gates.proofs.Tables.{covered_ok, and_same}
use Rattle.clause_gates.proofs.gates.and2.Goals as goal

pub returns-then-same-clause-clauses : goal.returns-then-same-clause-clauses
returns-then-same-clause-clauses c = and_same c.args.circuit.now.content.clauses c.args.a c.args.b (c.if-same.ensures.0 refl)

pub returns-clause-clauses : goal.returns-clause-clauses
returns-clause-clauses c = covered_ok c.define.result c.define.new.self.content.clauses (λ g. and_clauses g c.args.a c.args.b) (λ g. and_clauses g c.args.a c.args.b) (λ g d i. i) c.define.ensures.clauses
