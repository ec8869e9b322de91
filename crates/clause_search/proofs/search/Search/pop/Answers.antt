use Rattle.std.proofs.Common.{length}
use Rattle.clause_search.proofs.Layers.{popped_laid, popped_stacked, vars_left, last_vars}
use Rattle.clause_search.proofs.search.Search.pop.Goals as goal

pub invariant_of-self : goal.invariant_of-self
invariant_of-self c =
    popped_laid (length c.self.inside.phases.items) (length c.truncate.new.self.items) c.self.inside.clauses.items c.self.inside.marks.items c.pop.new.self.items c.in-Some.mark c.self.invariant c.in-Some.ensures.items
    (vars_left c.self.inside.phases.items c.truncate.new.self.items c.in-Some.mark.vars c.truncate.ensures.items (last_vars (length c.self.inside.phases.items) c.self.inside.clauses.items c.self.inside.marks.items c.pop.new.self.items c.in-Some.mark c.self.invariant c.in-Some.ensures.items))
    c.truncate-in-Some.new.self.items c.truncate-in-Some.ensures.items

pub returns-in-Some : goal.returns-in-Some
returns-in-Some c =
    popped_stacked (length c.self.inside.phases.items) (length c.truncate.new.self.items) c.self.inside.clauses.items c.self.inside.marks.items c.pop.new.self.items c.in-Some.mark c.self.invariant c.in-Some.ensures.items
    (vars_left c.self.inside.phases.items c.truncate.new.self.items c.in-Some.mark.vars c.truncate.ensures.items (last_vars (length c.self.inside.phases.items) c.self.inside.clauses.items c.self.inside.marks.items c.pop.new.self.items c.in-Some.mark c.self.invariant c.in-Some.ensures.items))
    c.truncate-in-Some.new.self.items c.args.self.now c.truncate-in-Some.ensures.items c.self.view_is
