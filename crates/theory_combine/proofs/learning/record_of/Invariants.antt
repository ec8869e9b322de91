use Rattle.theory_combine.proofs.Naming.{IsNamedSoFar}
use Rattle.theory_combine.proofs.learning.record_of.Given as goal

abbrev pub invariant-loop-origin : goal.invariant-loop-origin
invariant-loop-origin l = IsNamedSoFar l.fn.problem l.origins l.origin-index l.nodes l.names.items
