use Rattle.std.proofs.Common.{◌≡◌, ◌<◌, ℕ, Some}
use Rattle.std.specs.Prelude.{slice_get, IsSome}
use Rattle.update_axioms.specs.Views.{Pair}
use Rattle.update_axioms.specs.Shown.{found}
use Rattle.update_axioms.proofs.tests.pairs_shown.Given as goal

abbrev pub invariant-loop-i : goal.invariant-loop-i
invariant-loop-i l = (k : ℕ) (p : Pair) → k < l.i → slice_get l.unequal k ≡ Some p → IsSome (found l.functions p.0) × IsSome (found l.functions p.1)
