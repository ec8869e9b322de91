use Rattle.std.proofs.Common.{◌≡◌, ◌<◌, ℕ, Some}
use Rattle.std.specs.Prelude.{slice_get}
use Rattle.clause_logic.specs.declared.Lit.{Lit}
use Rattle.clause_search.proofs.search.all_below.Given as goal

abbrev pub invariant-loop-lit : goal.invariant-loop-lit
invariant-loop-lit l = (k : ℕ) (m : Lit) → k < l.lit-index → slice_get l.lits k ≡ Some m → m.var < l.vars
