-- The columns below k are done.
use Rattle.std.proofs.Common.{◌≡◌, take}
use Rattle.simplex_logic.specs.Vectors.{replaced}
use Rattle.simplex_table.proofs.row.Row.replaced.Given as goal

abbrev pub invariant-loop-k : goal.invariant-loop-k
invariant-loop-k l = l.entries.items ≡ take l.k (replaced l.column l.pivot l.self)
