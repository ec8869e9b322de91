use Rattle.clause_gates.specs.Defining.{xor_clauses}
use Rattle.clause_gates.proofs.Tables.{covered_ok}
use Rattle.clause_gates.proofs.gates.xor2.Goals as goal

pub returns-clause-clauses : goal.returns-clause-clauses
returns-clause-clauses c = covered_ok c.define.result c.define.new.self.content.clauses (λ g. xor_clauses g c.args.a c.args.b) (λ g. xor_clauses g c.args.a c.args.b) (λ g d i. i) c.define.ensures.clauses
