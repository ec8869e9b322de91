use Rattle.std.proofs.Common.{◌≡◌, map, take}
use Rattle.node_encoding.specs.Encoding.{lit_at}
use Rattle.node_encoding.proofs.encoding.Encoding.literals.Given as goal

abbrev pub invariant-loop-place : goal.invariant-loop-place
invariant-loop-place l = l.lits.items ≡ map (lit_at l.self.lits.items) (take l.place-index l.places)
