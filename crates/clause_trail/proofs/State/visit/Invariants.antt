use Rattle.std.proofs.Common.{◌-◌, length}
use Rattle.clause_trail.specs.View.{lists_of}
use Rattle.clause_trail.specs.Steps.{Turned, row_of}
use Rattle.clause_trail.proofs.State.visit.Given as goal

abbrev pub invariant-loop-at : goal.invariant-loop-at
invariant-loop-at l = Turned (lists_of l.fn.self) (lists_of l.self) l.falsified l.at

abbrev pub decreases-loop-at : goal.decreases-loop-at
decreases-loop-at l = length (row_of l.self.watches.items l.falsified) - l.at
