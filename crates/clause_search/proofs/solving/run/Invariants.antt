use Rattle.std.proofs.Common.{List, ◌≡◌, ◌↔◌, length}
use Rattle.clause_logic.specs.declared.Lit.{Lit}
use Rattle.clause_trail.specs.View.{lists_of}
use Rattle.clause_search.specs.Solving.{Going, Recorded}
use Rattle.clause_search.proofs.solving.run.Given as goal

abbrev pub invariant-loop-answer : goal.invariant-loop-answer
invariant-loop-answer g l = record {
  going : Going (lists_of l.state) l.added (g.C.Checker.stands l.fn.checker) l.assumed;
  recorded : Recorded l.state.clauses.items l.added (g.C.Checker.stands l.fn.checker) l.assumed l.turns;
  vars : length l.state.values.items ≡ length l.fn.state.values.items;
  stands : (d : List Lit) → g.C.Checker.stands l.checker d ↔ g.C.Checker.stands l.fn.checker d;
}

abbrev pub decreases-loop-answer : goal.decreases-loop-answer
decreases-loop-answer g l = l.left
