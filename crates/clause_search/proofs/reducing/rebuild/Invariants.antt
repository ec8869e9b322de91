use Rattle.clause_trail.specs.View.{lists_of}
use Rattle.clause_search.specs.Solving.{IsRebuilt}
use Rattle.clause_search.proofs.reducing.rebuild.Given as goal

abbrev pub invariant-loop-c : goal.invariant-loop-c
invariant-loop-c l = IsRebuilt (lists_of l.state) (lists_of l.fresh) l.added l.c
