use Rattle.std.proofs.Common.{◌≡◌, ◌<◌, ℕ, Some}
use Rattle.std.specs.Prelude.{slice_get}
use Rattle.clause_logic.specs.declared.Lit.{Lit}
use Rattle.clause_logic.specs.Trails.{Prefix}
use Rattle.clause_trail.proofs.State.all_before.Given as goal

abbrev pub invariant-loop-lit : goal.invariant-loop-lit
invariant-loop-lit l = (k : ℕ) (m : Lit) → k < l.lit-index → slice_get l.lits k ≡ Some m → Prefix l.self.order.items l.place m
