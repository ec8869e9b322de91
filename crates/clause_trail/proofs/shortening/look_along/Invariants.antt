use Rattle.std.proofs.Common.{◌≡◌, ◌⊎◌, take}
use Rattle.clause_logic.specs.declared.Lit.{Lit}
use Rattle.clause_logic.specs.Clauses.{In}
use Rattle.clause_trail.specs.Shortening.{HasFinding}
use Rattle.clause_trail.proofs.shortening.look_along.Given as goal

abbrev pub invariant-loop-lit : goal.invariant-loop-lit
invariant-loop-lit l = (m : Lit) → In m (take l.lit-index l.lits) → (m.var ≡ l.var) ⊎ HasFinding l.state.places.items l.found m
