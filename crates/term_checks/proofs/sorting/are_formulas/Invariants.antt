use Rattle.std.proofs.Common.{◌≡◌, ◌<◌, ℕ, Some}
use Rattle.std.specs.Prelude.{slice_get}
use Rattle.term_shapes.specs.declared.handles.Term.{Term}
use Rattle.term_checks.specs.Formulas.{IsFormula}
use Rattle.term_checks.proofs.sorting.are_formulas.Given as goal

abbrev pub invariant-loop-term : goal.invariant-loop-term
invariant-loop-term l = (j : ℕ) (t : Term) → j < l.term-index → slice_get l.terms j ≡ Some t → IsFormula l.table t
