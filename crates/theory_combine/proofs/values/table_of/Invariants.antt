use Rattle.std.proofs.Common.{drop}
use Rattle.node_encoding.specs.Nodes.{constants_in}
use Rattle.theory_combine.specs.Values.{IsTable}
use Rattle.theory_combine.proofs.values.table_of.Given as goal

abbrev pub invariant-loop-i : goal.invariant-loop-i
invariant-loop-i l = IsTable l.table.entries (constants_in l.problem (drop l.i l.items))
