use Rattle.std.proofs.Common.{◌≡◌, ◌<◌, ℕ, Some}
use Rattle.std.specs.Prelude.{slice_get}
use Rattle.clause_logic.specs.declared.Lit.{Lit}
use Rattle.clause_search.specs.Answers.{IsFalseIn}
use Rattle.clause_search.proofs.tests.all_false.Given as goal

abbrev pub invariant-loop-l : goal.invariant-loop-l
invariant-loop-l l = (k : ℕ) (m : Lit) → k < l.l-index → slice_get l.lits k ≡ Some m → IsFalseIn l.shown m
