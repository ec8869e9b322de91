use Rattle.clause_logic.specs.declared.Lit.{Lit}
use Rattle.clause_logic.specs.Clauses.{In}
use Rattle.clause_search.specs.Answers.{IsFalseIn}
use Rattle.clause_search.proofs.tests.refusal.Given as goal

abbrev pub invariant-loop-var : goal.invariant-loop-var
invariant-loop-var l = (m : Lit) → In m l.lits.items → IsFalseIn l.shown m
