use Rattle.std.proofs.Common.{arith, ◌∙◌, ap, get_or, refl}
use Rattle.clause_search.specs.Content.{Stacked}
use Rattle.node_encoding.proofs.Adding.{no_lit, below_three, opposite_below, gate_known, arg_known}
use Rattle.node_encoding.proofs.gates.add_choice.Goals as goal

pub add_clause-requires : goal.add_clause-requires
add_clause-requires c =
    below_three _ c.args.search.now.content.vars _ _ _ refl (opposite_below c.args.search.now.content.vars (get_or c.args.args.now 0 no_lit) c.opposite.result c.opposite.ensures (arg_known c.args.search.now.content.vars c.args.gate c.args.args.now c.requires.known 0 (omega (arith, c.in-len3.len_at_least)))) (opposite_below c.args.search.now.content.vars c.args.gate c.opposite-in-len3.result c.opposite-in-len3.ensures (gate_known c.args.search.now.content.vars c.args.gate c.args.args.now c.requires.known)) (arg_known c.args.search.now.content.vars c.args.gate c.args.args.now c.requires.known 1 (omega (arith, c.in-len3.len_at_least)))

pub add_clause-requires-in-len3 : goal.add_clause-requires-in-len3
add_clause-requires-in-len3 c =
    below_three _ c.args.search.now.content.vars _ _ _ (ap (λ (s : Stacked). s.content.vars) c.in_ok-add_clause-in-len3.ensures.ok) (opposite_below c.args.search.now.content.vars (get_or c.args.args.now 0 no_lit) c.opposite-in-len3-2.result c.opposite-in-len3-2.ensures (arg_known c.args.search.now.content.vars c.args.gate c.args.args.now c.requires.known 0 (omega (arith, c.in-len3.len_at_least)))) (gate_known c.args.search.now.content.vars c.args.gate c.args.args.now c.requires.known) (opposite_below c.args.search.now.content.vars (get_or c.args.args.now 1 no_lit) c.opposite-in-len3-3.result c.opposite-in-len3-3.ensures (arg_known c.args.search.now.content.vars c.args.gate c.args.args.now c.requires.known 1 (omega (arith, c.in-len3.len_at_least))))

pub add_clause-requires-in-len3-2 : goal.add_clause-requires-in-len3-2
add_clause-requires-in-len3-2 c =
    below_three _ c.args.search.now.content.vars _ _ _ (ap (λ (s : Stacked). s.content.vars) c.in_ok-add_clause-in-len3-2.ensures.ok ∙ ap (λ (s : Stacked). s.content.vars) c.in_ok-add_clause-in-len3.ensures.ok) (arg_known c.args.search.now.content.vars c.args.gate c.args.args.now c.requires.known 0 (omega (arith, c.in-len3.len_at_least))) (opposite_below c.args.search.now.content.vars c.args.gate c.opposite-in-len3-4.result c.opposite-in-len3-4.ensures (gate_known c.args.search.now.content.vars c.args.gate c.args.args.now c.requires.known)) (arg_known c.args.search.now.content.vars c.args.gate c.args.args.now c.requires.known 2 (omega (arith, c.in-len3.len_at_least)))

pub add_clause-requires-in-len3-3 : goal.add_clause-requires-in-len3-3
add_clause-requires-in-len3-3 c =
    below_three _ c.args.search.now.content.vars _ _ _ (ap (λ (s : Stacked). s.content.vars) c.in_ok-add_clause-in-len3-3.ensures.ok ∙ ap (λ (s : Stacked). s.content.vars) c.in_ok-add_clause-in-len3-2.ensures.ok ∙ ap (λ (s : Stacked). s.content.vars) c.in_ok-add_clause-in-len3.ensures.ok) (arg_known c.args.search.now.content.vars c.args.gate c.args.args.now c.requires.known 0 (omega (arith, c.in-len3.len_at_least))) (gate_known c.args.search.now.content.vars c.args.gate c.args.args.now c.requires.known) (opposite_below c.args.search.now.content.vars (get_or c.args.args.now 2 no_lit) c.opposite-in-len3-5.result c.opposite-in-len3-5.ensures (arg_known c.args.search.now.content.vars c.args.gate c.args.args.now c.requires.known 2 (omega (arith, c.in-len3.len_at_least))))
