use Rattle.std.proofs.Common.{[]}
use Rattle.clause_trail.specs.View.{lists_of}
use Rattle.clause_search.specs.Loading.{IsRoot}
use Rattle.clause_search.proofs.loading.empty_state.Given as goal

abbrev pub invariant-loop-number : goal.invariant-loop-number
invariant-loop-number l = IsRoot (lists_of l.state) l.number []
