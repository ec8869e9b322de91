use Rattle.std.proofs.Common.{◌≡◌, ◌<◌, ℕ, Some, length}
use Rattle.std.specs.Prelude.{slice_get, IsSome}
use Rattle.update_axioms.specs.Views.{Update}
use Rattle.update_axioms.specs.Shown.{found}
use Rattle.update_axioms.proofs.tests.updates_shown.Given as goal

abbrev pub invariant-loop-i : goal.invariant-loop-i
invariant-loop-i l =
    (k : ℕ) (u : Update) → k < l.i → slice_get l.updates k ≡ Some u → IsSome (found l.shown.functions u.0) × IsSome (found l.shown.functions u.1) × (u.2 < length l.shown.tuples) × IsSome (found l.shown.values u.3)
