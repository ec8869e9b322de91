use Rattle.std.proofs.Common.{◌-◌, ◌+◌, length}
use Rattle.clause_trail.specs.Words.{open_count}
use Rattle.clause_trail.specs.View.{lists_of}
use Rattle.clause_trail.specs.Steps.{Propagates}
use Rattle.clause_trail.proofs.State.propagate.Given as goal

abbrev pub invariant-loop-self : goal.invariant-loop-self
invariant-loop-self l = Propagates (lists_of l.fn.self) (lists_of l.self)

abbrev pub decreases-loop-self : goal.decreases-loop-self
decreases-loop-self l = (open_count l.self.values.items + length l.self.order.items) - l.self.done
