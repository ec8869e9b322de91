use Rattle.std.proofs.Common.{inr, refl}
use Rattle.node_encoding.proofs.Adding.{below_one, below_clause, opposite_below, gate_known}
use Rattle.node_encoding.proofs.gates.add_shape.Goals as goal

pub add_clause-requires : goal.add_clause-requires
add_clause-requires c = below_one _ c.args.search.now.content.vars _ refl (gate_known c.args.search.now.content.vars c.args.gate c.args.args.now c.requires.known)

pub add_clause-requires-in-False : goal.add_clause-requires-in-False
add_clause-requires-in-False c = below_one _ c.args.search.now.content.vars _ refl (opposite_below c.args.search.now.content.vars c.args.gate c.opposite.result c.opposite.ensures (gate_known c.args.search.now.content.vars c.args.gate c.args.args.now c.requires.known))

pub add_even-requires-in-Eq : goal.add_even-requires-in-Eq
add_even-requires-in-Eq c = record {
  known = below_clause _ c.args.search.now.content.vars _ c.opposite-in-Eq.result c.args.args.now refl refl (opposite_below c.args.search.now.content.vars c.args.gate c.opposite-in-Eq.result c.opposite-in-Eq.ensures (gate_known c.args.search.now.content.vars c.args.gate c.args.args.now c.requires.known)) (λ l i. c.requires.known l (inr i));
}
