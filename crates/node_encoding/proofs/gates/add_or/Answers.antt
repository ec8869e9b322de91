use Rattle.std.proofs.Common.{◌++◌, ◌∷◌, [], ◌∙◌, ap, get_or, inr}
use Rattle.clause_search.specs.Content.{Stacked}
use Rattle.node_encoding.proofs.Adding.{no_lit, below_two, below_clause, opposite_below, gate_known, arg_known}
use Rattle.node_encoding.proofs.gates.add_or.Goals as goal

pub add_clause-requires : goal.add_clause-requires
add_clause-requires c =
    below_two _ c.args.search.now.content.vars _ _ (ap (λ (s : Stacked). s.content.vars) c.loop-arg.invariant) (gate_known c.args.search.now.content.vars c.args.gate c.args.args.now c.requires.known) (opposite_below c.args.search.now.content.vars (get_or c.args.args.now c.loop-arg.arg-index no_lit) c.opposite.result c.opposite.ensures (arg_known c.args.search.now.content.vars c.args.gate c.args.args.now c.requires.known c.loop-arg.arg-index c.loop-arg-test.true))

pub add_clause-requires-2 : goal.add_clause-requires-2
add_clause-requires-2 c =
    below_clause _ c.args.search.now.content.vars c.as_slice.result.now c.opposite-2.result c.args.args.now (ap (λ (s : Stacked). s.content.vars) c.loop-arg.invariant)
    (c.as_slice.ensures.value ∙ c.in_ok-extend_from_slice.ensures.items ∙ ap (λ w. w ++ c.args.args.now) (c.in_ok-push.ensures.items ∙ ap (λ w. w ++ c.opposite-2.result ∷ []) c.new-last.ensures.items))
    (opposite_below c.args.search.now.content.vars c.args.gate c.opposite-2.result c.opposite-2.ensures (gate_known c.args.search.now.content.vars c.args.gate c.args.args.now c.requires.known)) (λ l i. c.requires.known l (inr i))
