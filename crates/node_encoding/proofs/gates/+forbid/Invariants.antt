use Rattle.std.proofs.Common.{◌-◌, length}
use Rattle.node_encoding.proofs.gates.+forbid.Given as goal

abbrev pub decreases-forbid : goal.decreases-forbid
decreases-forbid l = length l.lits.now - length l.clause.now.items
