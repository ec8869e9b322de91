use Rattle.std.proofs.Common.{◌≡◌, map, take}
use Rattle.clause_gates.specs.Built.{with_clauses}
use Rattle.clause_gates.proofs.defining.add_rows.Given as goal

abbrev pub invariant-loop-row : goal.invariant-loop-row
invariant-loop-row l = l.search ≡ with_clauses l.fn.search (take l.row-index (map (λ r. r.now) l.rows))
