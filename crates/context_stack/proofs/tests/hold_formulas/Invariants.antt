use Rattle.std.proofs.Common.{◌≡◌, ℕ, ◌<◌, List, Some}
use Rattle.std.specs.Prelude.{slice_get}
use Rattle.term_shapes.specs.declared.handles.Term.{Term}
use Rattle.term_checks.specs.Formulas.{AreFormulas}
use Rattle.context_stack.proofs.tests.hold_formulas.Given as goal

abbrev pub invariant-loop-level : goal.invariant-loop-level
invariant-loop-level l = (k : ℕ) (ts : List Term) → k < l.level → slice_get l.context.levels k ≡ Some ts → AreFormulas l.table ts
