use Rattle.std.proofs.Common.{◌≡◌, ℕ, length, Some}
use Rattle.std.specs.Prelude.{slice_get}
use Rattle.theory_combine.proofs.deciding.all_places.Given as goal

abbrev pub invariant-loop-i : goal.invariant-loop-i
invariant-loop-i l = (length l.places ≡ l.i) × ((i p : ℕ) → slice_get l.places i ≡ Some p → p ≡ i)
