use Rattle.std.proofs.Common.{ℕ, take}
use Rattle.clause_logic.specs.declared.Lit.{Lit}
use Rattle.clause_logic.specs.Clauses.{In}
use Rattle.clause_logic.specs.Trails.{FalseBefore}
use Rattle.clause_trail.specs.Levels.{IsTop}
use Rattle.clause_trail.proofs.levels.top_of.Given as goal

abbrev pub invariant-loop-lit : goal.invariant-loop-lit
invariant-loop-lit l = (s : ℕ) → ((m : Lit) → In m l.lits → FalseBefore l.state.order.items s m) → IsTop l.state.order.items s (take l.lit-index l.lits) l.top
