-- a step for the bounds passed
use Rattle.std.proofs.Common.{take}
use Rattle.simplex_core.specs.Concrete.{IsCommonStep}
use Rattle.simplex_core.proofs.concrete.common_step.Given as goal

abbrev pub invariant-loop-bound : goal.invariant-loop-bound
invariant-loop-bound l = IsCommonStep (take l.bound-index l.bounds) l.values l.step
