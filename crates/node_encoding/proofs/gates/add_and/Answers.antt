use Rattle.std.proofs.Common.{◌∙◌, ap, inr, map}
use Rattle.clause_logic.specs.Clauses.{opposite}
use Rattle.clause_search.specs.Content.{Stacked}
use Rattle.node_encoding.proofs.Adding.{below_opposites, below_two, below_clause, opposite_below, gate_known, arg_known}
use Rattle.node_encoding.proofs.gates.add_and.Goals as goal

pub add_clause-requires : goal.add_clause-requires
add_clause-requires c =
    below_two _ c.args.search.now.content.vars _ _ (ap (λ (s : Stacked). s.content.vars) c.loop-arg.invariant) (opposite_below c.args.search.now.content.vars c.args.gate c.opposite.result c.opposite.ensures (gate_known c.args.search.now.content.vars c.args.gate c.args.args.now c.requires.known)) (arg_known c.args.search.now.content.vars c.args.gate c.args.args.now c.requires.known c.loop-arg.arg-index c.loop-arg-test.true)

pub add_clause-requires-2 : goal.add_clause-requires-2
add_clause-requires-2 c =
    below_clause _ c.args.search.now.content.vars c.as_slice.result.now c.args.gate (map opposite c.args.args.now) (ap (λ (s : Stacked). s.content.vars) c.loop-arg.invariant) (c.as_slice.ensures.value ∙ c.in_ok-last.ensures) (gate_known c.args.search.now.content.vars c.args.gate c.args.args.now c.requires.known)
    (below_opposites c.args.search.now.content.vars c.args.args.now (λ l i. c.requires.known l (inr i)))
