use Rattle.std.proofs.Common.{◌++◌, ◌∷◌, [], ◌∙◌, ◌<◌, sym, ap, subst}
use Rattle.clause_logic.specs.declared.Lit.{Lit}
use Rattle.clause_logic.specs.Clauses.{In}
use Rattle.node_encoding.proofs.gates.add_even.Goals as goal

pub forbid-requires-clause-known : goal.forbid-requires-clause-known
forbid-requires-clause-known c =
    subst (λ w. (l : Lit) → In l w → l.var < c.args.search.now.content.vars)
    (sym (c.as_slice.ensures.value ∙ c.in_ok-extend_from_slice.ensures.items ∙ ap (λ w. w ++ c.args.others.now) (c.in_ok-push.ensures.items ∙ ap (λ w. w ++ c.args.first ∷ []) c.new-lits.ensures.items)))
    c.requires.known
