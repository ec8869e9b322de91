use Rattle.expression_terms.proofs.Naming.{FirstBound}
use Rattle.expression_terms.proofs.names.bind_all.Given as goal

-- the first names are bound
abbrev pub invariant-loop-i : goal.invariant-loop-i
invariant-loop-i l = FirstBound l.binds l.terms l.fn.names l.i l.names
