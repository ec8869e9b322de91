-- the values of the columns passed
use Rattle.std.proofs.Common.{take}
use Rattle.simplex_core.specs.Checking.{ArePoints}
use Rattle.simplex_core.proofs.checking.points.Given as goal

abbrev pub invariant-loop-column : goal.invariant-loop-column
invariant-loop-column l = ArePoints (take l.column-index l.columns) l.values l.found.items
