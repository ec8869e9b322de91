use Rattle.std.proofs.Common.{◌≡◌, ◌<◌, ◌≤◌, length}
use Rattle.clause_logic.specs.Clauses.{Both, Listed}
use Rattle.clause_trail.specs.Analysis.{Marked, Refuted}
use Rattle.clause_trail.specs.Analysis.{marks_of}
use Rattle.clause_trail.proofs.analysis.analyze.Given as goal

abbrev pub invariant-loop-marks : goal.invariant-loop-marks
invariant-loop-marks l = record {
  marked : Marked l.state.order.items l.start l.bound (marks_of l.marks);
  some : 0 < l.marks.count;
  short : l.bound ≤ length l.state.order.items;
  refuted : Refuted (Both (Listed (l.state.clauses.items)) (λ c. c ≡ l.conflict)) l.state.order.items (marks_of l.marks);
}

abbrev pub decreases-loop-marks : goal.decreases-loop-marks
decreases-loop-marks l = l.bound
