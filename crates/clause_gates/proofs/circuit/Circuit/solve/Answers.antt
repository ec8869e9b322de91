use Rattle.std.proofs.Common.{◌<◌, sym, subst}
use Rattle.clause_logic.specs.declared.Lit.{Lit}
use Rattle.clause_logic.specs.Clauses.{In}
use Rattle.clause_gates.specs.Built.{Built}
use Rattle.clause_gates.proofs.circuit.Circuit.solve.Goals as goal

pub solve-requires-clause-known : goal.solve-requires-clause-known
solve-requires-clause-known g c = subst (λ (b : Built). (l : Lit) → In l c.args.assumed.now → l.var < b.content.vars) (sym c.self.view_is) c.requires.known
