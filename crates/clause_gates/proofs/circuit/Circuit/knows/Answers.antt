use Rattle.std.proofs.Common.{◌<◌, subst}
use Rattle.std.specs.Bool.{OnTrue, OnFalse}
use Rattle.clause_logic.specs.declared.Lit.{Lit}
use Rattle.clause_logic.specs.Clauses.{In}
use Rattle.clause_gates.specs.Built.{Built}
use Rattle.clause_gates.proofs.circuit.Circuit.knows.Goals as goal

pub returns-clause-yes : goal.returns-clause-yes
returns-clause-yes c = subst (λ (b : Built). OnTrue c.knows.result ((l : Lit) → In l c.args.lits.now → l.var < b.content.vars)) c.self.view_is c.knows.ensures.yes

pub returns-clause-no : goal.returns-clause-no
returns-clause-no c = subst (λ (b : Built). OnFalse c.knows.result (((l : Lit) → In l c.args.lits.now → l.var < b.content.vars) → ⊥)) c.self.view_is c.knows.ensures.no
