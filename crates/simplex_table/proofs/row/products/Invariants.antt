-- The sum over the columns below k.
use Rattle.std.proofs.Common.{◌≡◌, take}
use Rattle.simplex_logic.specs.Vectors.{dot, parts}
use Rattle.simplex_table.specs.View.{deltas}
use Rattle.simplex_table.proofs.row.products.Given as goal

abbrev pub invariant-loop-k : goal.invariant-loop-k
invariant-loop-k l = l.sum ≡ dot (take l.k l.row) (parts l.real (deltas l.values))
