use Rattle.std.proofs.Common.{ℕ, ◌≡◌, ◌<◌, Some}
use Rattle.std.specs.Prelude.{slice_get}
use Rattle.clause_trail.proofs.State.levels_before.Given as goal

abbrev pub invariant-loop-level : goal.invariant-loop-level
invariant-loop-level l = (k n : ℕ) → k < l.level → slice_get l.self.starts.items k ≡ Some n → n < l.place
