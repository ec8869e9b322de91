use Rattle.std.proofs.Common.{take}
use Rattle.clause_trail.specs.View.{lists_of}
use Rattle.clause_search.specs.Loading.{IsRoot}
use Rattle.clause_search.proofs.loading.load.Given as goal

abbrev pub invariant-loop-clause : goal.invariant-loop-clause
invariant-loop-clause l = IsRoot (lists_of l.state) l.vars (take l.clause-index l.added)
