use Rattle.std.proofs.Common.{◌≡◌, length}
use Rattle.node_encoding.specs.Encoding.{IsEncoding, AreConstants}
use Rattle.theory_combine.proofs.deciding.encode.Given as goal

abbrev pub invariant-loop-k : goal.invariant-loop-k
invariant-loop-k l = IsEncoding l.nodes l.encoding × (length l.encoding.lits.items ≡ l._k) × AreConstants l.nodes l.encoding.lits.items l.constants.entries
