use Rattle.std.proofs.Common.{◌≡◌, ◌-◌, take, drop}
use Rattle.clause_search.proofs.solving.record_of.Given as goal

abbrev pub invariant-loop-c : goal.invariant-loop-c
invariant-loop-c l = l.clauses ≡ take (l.c - l.from) (drop l.from l.state.clauses.items)
