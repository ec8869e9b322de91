use Rattle.std.proofs.Common.{refl}
use Rattle.node_encoding.proofs.Adding.{below_one, opposite_below, gate_known}
use Rattle.node_encoding.proofs.gates.add_distinct.Goals as goal

pub add_clause-requires : goal.add_clause-requires
add_clause-requires c = below_one _ c.args.search.now.content.vars _ refl (gate_known c.args.search.now.content.vars c.args.gate c.args.args.now c.requires.known)

pub add_clause-requires-else-args-eq2 : goal.add_clause-requires-else-args-eq2
add_clause-requires-else-args-eq2 c = below_one _ c.args.search.now.content.vars _ refl (opposite_below c.args.search.now.content.vars c.args.gate c.opposite.result c.opposite.ensures (gate_known c.args.search.now.content.vars c.args.gate c.args.args.now c.requires.known))
