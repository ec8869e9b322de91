use Rattle.std.proofs.Common.{◌⊎◌, take}
use Rattle.clause_logic.specs.declared.Lit.{Lit}
use Rattle.clause_logic.specs.Clauses.{In, Listed}
use Rattle.clause_trail.specs.Shortening.{IsRedundant, AreFound}
use Rattle.clause_trail.proofs.shortening.shorten.Given as goal

abbrev pub invariant-loop-lit : goal.invariant-loop-lit
invariant-loop-lit l = record {
  found : AreFound (Listed l.state.clauses.items) l.state.order.items l.lits l.findings.found.items;
  among : (m : Lit) → In m l.kept.items → In m l.lits;
  each : (m : Lit) → In m (take l.lit-index l.lits) → In m l.kept.items ⊎ IsRedundant (Listed l.state.clauses.items) l.state.order.items l.lits m;
}
