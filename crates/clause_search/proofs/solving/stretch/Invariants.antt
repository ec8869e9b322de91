use Rattle.std.proofs.Common.{List, ◌≡◌, ◌↔◌, length}
use Rattle.clause_logic.specs.declared.Lit.{Lit}
use Rattle.clause_trail.specs.View.{lists_of}
use Rattle.clause_search.specs.Solving.{Going, Recorded, weight}
use Rattle.clause_search.proofs.solving.stretch.Given as goal

abbrev pub invariant-loop-state : goal.invariant-loop-state
invariant-loop-state g l = record {
  going : Going (lists_of l.state) l.added (g.C.Checker.stands l.fn.checker) l.assumed;
  recorded : Recorded l.state.clauses.items l.added (g.C.Checker.stands l.fn.checker) l.assumed l.turns;
  vars : length l.state.values.items ≡ length l.fn.state.values.items;
  stands : (d : List Lit) → g.C.Checker.stands l.checker d ↔ g.C.Checker.stands l.fn.checker d;
}

abbrev pub decreases-loop-state : goal.decreases-loop-state
decreases-loop-state g l = weight (lists_of l.state) l.added
