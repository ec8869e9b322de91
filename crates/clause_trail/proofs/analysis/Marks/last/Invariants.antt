use Rattle.std.proofs.Common.{◌≡◌, ◌<◌, ◌≤◌, ℕ, true, Some, length}
use Rattle.std.specs.Prelude.{slice_get}
use Rattle.clause_trail.proofs.analysis.Marks.last.Given as goal

abbrev pub invariant-loop-place : goal.invariant-loop-place
invariant-loop-place l = (l.place < length l.self.waiting.items) × ((p : ℕ) × (p ≤ l.place) × (slice_get l.self.waiting.items p ≡ Some true))

abbrev pub decreases-loop-place : goal.decreases-loop-place
decreases-loop-place l = l.place
