-- the values so far
use Rattle.simplex_core.specs.Concrete.{AreConcrete}
use Rattle.simplex_core.proofs.concrete.concrete_values.Given as goal

abbrev pub invariant-loop-v : goal.invariant-loop-v
invariant-loop-v l = AreConcrete l.step l.values l.v l.found.items
