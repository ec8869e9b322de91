use Rattle.std.proofs.Common.{◌≡◌, length}
use Rattle.node_encoding.specs.Encoding.{encoded_of}
use Rattle.node_encoding.proofs.Growing.{IsGrowing}
use Rattle.node_encoding.proofs.encoding.Encoding.parity.Given as goal

abbrev pub invariant-loop-i : goal.invariant-loop-i
invariant-loop-i l = IsGrowing l.nodes l.k l.args (encoded_of l.fn.self) (encoded_of l.self) l.i l.last × (l.self.search.content.vars ≡ length l.self.origins.items)
