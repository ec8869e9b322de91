use Rattle.std.proofs.Common.{length, subst, sym, ◌∙◌, ap, ◌++◌, ◌∷◌, [], ◌<◌, List}
use Rattle.clause_logic.specs.declared.Lit.{Lit}
use Rattle.clause_logic.specs.Clauses.{In}
use Rattle.clause_search.specs.Content.{Stacked}
use Rattle.clause_search.proofs.Layers.{added_laid, added_stacked}
use Rattle.clause_search.proofs.search.Search.add_clause.Goals as goal

pub invariant_of-self-2 : goal.invariant_of-self-2
invariant_of-self-2 c =
    added_laid (length c.self.inside.phases.items) c.self.inside.clauses.items c.self.inside.marks.items c.args.lits.now c.self.invariant c.push.new.self.items
    (c.in_ok-push.ensures.items ∙ ap (λ (x : List Lit). c.self.inside.clauses.items ++ x ∷ []) (c.from_vec-clause.ensures ∙ c.in_ok-from_slice.ensures.items))
    (subst (λ (o : Stacked). (l : Lit) → In l c.args.lits.now → l.var < o.content.vars) (sym c.self.view_is) c.requires)

pub returns-clause-ok : goal.returns-clause-ok
returns-clause-ok c =
    added_stacked (length c.self.inside.phases.items) c.self.inside.clauses.items c.self.inside.marks.items c.args.lits.now c.self.invariant c.push.new.self.items c.args.self.now
    (c.in_ok-push.ensures.items ∙ ap (λ (x : List Lit). c.self.inside.clauses.items ++ x ∷ []) (c.from_vec-clause.ensures ∙ c.in_ok-from_slice.ensures.items))
    c.self.view_is
