use Rattle.clause_trail.specs.Analysis.{CoreSoFar}
use Rattle.clause_trail.specs.Analysis.{marks_of}
use Rattle.clause_trail.proofs.analysis.core_of.Given as goal

abbrev pub invariant-loop-marks : goal.invariant-loop-marks
invariant-loop-marks l = CoreSoFar l.state.order.items l.bound (l.state.clauses.items) l.assumed l.lits (marks_of l.marks) l.core.items

abbrev pub decreases-loop-marks : goal.decreases-loop-marks
decreases-loop-marks l = l.bound
