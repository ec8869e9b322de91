use Rattle.std.proofs.Common.{◌+◌, arith}
use Rattle.clause_gates.proofs.Growth.{grows_more}
use Rattle.clause_gates.proofs.laws.growth_composes.Goals as goal

pub returns-clause-composes : goal.returns-clause-composes
returns-clause-composes c = λ x y z m n f g. grows_more (m + n) f g (omega arith)

pub returns-clause-later : goal.returns-clause-later
returns-clause-later c = λ a b n g. record { added = g.added; clauses = g.clauses; vars = g.vars }
