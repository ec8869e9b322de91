use Rattle.std.proofs.Common.{◌≡◌, map, take}
use Rattle.node_encoding.specs.Encoding.{assumed_at}
use Rattle.node_encoding.proofs.encoding.Encoding.node_lits.Given as goal

abbrev pub invariant-loop-lit : goal.invariant-loop-lit
invariant-loop-lit l = l.turned.items ≡ map (assumed_at l.self.lits.items) (take l.lit-index l.lits)
