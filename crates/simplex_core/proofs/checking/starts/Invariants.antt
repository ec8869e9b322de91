-- the starts of the columns passed
use Rattle.std.proofs.Common.{take}
use Rattle.simplex_core.specs.Checking.{AreStarts}
use Rattle.simplex_core.proofs.checking.starts.Given as goal

abbrev pub invariant-loop-column : goal.invariant-loop-column
invariant-loop-column l = AreStarts (take l.column-index l.columns) l.ranges l.found.items
