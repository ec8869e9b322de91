use Rattle.clause_trail.specs.View.{lists_of}
use Rattle.clause_trail.proofs.Settling.{chosen_shrunk}
use Rattle.clause_trail.proofs.State.keep.Goals as goal

pub returns-clause-chosen : goal.returns-clause-chosen
returns-clause-chosen c = λ assumed h.
    chosen_shrunk (lists_of c.assert_clause.new.self) (lists_of c.restart.new.self) assumed c.restart.ensures.shrunk (c.in_ok-assert_clause.ensures.chosen assumed h)
