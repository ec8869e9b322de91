use Rattle.std.proofs.Common.{ℕ, ◌≡◌, ◌<◌, Some, Bool}
use Rattle.std.specs.Prelude.{slice_get}
use Rattle.clause_search.proofs.solving.first_open.Given as goal

abbrev pub invariant-loop-var : goal.invariant-loop-var
invariant-loop-var l = (v : ℕ) → v < l.var → (b : Bool) × (slice_get l.state.values.items v ≡ Some (Some b))
