use Rattle.std.proofs.Common.{◌<◌, sym, subst}
use Rattle.clause_logic.specs.declared.Lit.{Lit}
use Rattle.clause_logic.specs.Clauses.{In}
use Rattle.clause_gates.specs.Built.{Built}
use Rattle.clause_gates.specs.Layout.{built_of}
use Rattle.clause_gates.proofs.Keeping.{clause_keeps}
use Rattle.clause_gates.proofs.circuit.Circuit.add_clause.Goals as goal

pub add_clause-requires : goal.add_clause-requires
add_clause-requires c = subst (λ (b : Built). (l : Lit) → In l c.args.lits.now → l.var < b.content.vars) (sym c.self.view_is) c.requires

pub invariant_of-self-2 : goal.invariant_of-self-2
invariant_of-self-2 c =
    let below : (l : Lit) → In l c.args.lits.now → l.var < c.self.inside.search.content.vars = subst (λ (b : Built). (l : Lit) → In l c.args.lits.now → l.var < b.content.vars) (sym c.self.view_is) c.requires in
    rw (c.in_ok-add_clause.ensures.ok, c.made.ensures) (clause_keeps (built_of c.self.inside) c.self.invariant c.args.lits.now below)
