use Rattle.std.proofs.Common.{length, ◌∙◌}
use Rattle.clause_search.proofs.Layers.{pushed_laid}
use Rattle.clause_search.proofs.search.Search.push.Goals as goal

pub invariant_of-self-2 : goal.invariant_of-self-2
invariant_of-self-2 c =
    pushed_laid (length c.self.inside.phases.items) c.len.result c.len-2.result c.self.inside.clauses.items c.self.inside.marks.items c.push.new.self.items c.self.invariant
    (c.len.ensures ∙ c.self.inside.phases.ok.0) (c.len-2.ensures ∙ c.self.inside.clauses.ok.0) c.in_ok-push.ensures.items
