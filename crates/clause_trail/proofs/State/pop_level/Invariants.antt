use Rattle.std.proofs.Common.{length}
use Rattle.clause_trail.specs.View.{lists_of}
use Rattle.clause_trail.specs.Changes.{Lowering}
use Rattle.clause_trail.proofs.State.pop_level.Given as goal

abbrev pub invariant-loop-self : goal.invariant-loop-self
invariant-loop-self l = Lowering (lists_of l.fn.self) (lists_of l.self) l.start

abbrev pub decreases-loop-self : goal.decreases-loop-self
decreases-loop-self l = length l.self.order.items
