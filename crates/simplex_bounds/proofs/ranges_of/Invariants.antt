-- the ranges that the bounds passed leave
use Rattle.std.proofs.Common.{take}
use Rattle.simplex_bounds.specs.Ranges.{Ranged}
use Rattle.simplex_bounds.proofs.ranges_of.Given as goal

abbrev pub invariant-loop-bound : goal.invariant-loop-bound
invariant-loop-bound l = Ranged l.count (take l.bound-index l.bounds) l.ranges.items
