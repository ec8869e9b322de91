use Rattle.std.proofs.Common.{ℕ, ◌<◌, ◌∙◌, ap, subst}
use Rattle.std.specs.Bool.{OnTrue, OnFalse}
use Rattle.clause_logic.specs.declared.Lit.{Lit}
use Rattle.clause_logic.specs.Clauses.{In}
use Rattle.clause_search.specs.Content.{Stacked}
use Rattle.clause_search.proofs.search.Search.knows.Goals as goal

pub returns-clause-yes : goal.returns-clause-yes
returns-clause-yes c =
    subst (λ (n : ℕ). OnTrue c.all_below.result ((l : Lit) → In l c.args.lits.now → l.var < n)) (c.len.ensures ∙ c.self.inside.phases.ok.0 ∙ ap (λ (o : Stacked). o.content.vars) c.self.view_is) c.all_below.ensures.yes

pub returns-clause-no : goal.returns-clause-no
returns-clause-no c =
    subst (λ (n : ℕ). OnFalse c.all_below.result (((l : Lit) → In l c.args.lits.now → l.var < n) → ⊥)) (c.len.ensures ∙ c.self.inside.phases.ok.0 ∙ ap (λ (o : Stacked). o.content.vars) c.self.view_is) c.all_below.ensures.no
