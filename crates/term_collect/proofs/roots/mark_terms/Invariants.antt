use Rattle.term_collect.specs.Marking.{Marks, IsTermBelow}
use Rattle.term_collect.proofs.roots.mark_terms.Given as goal

abbrev pub invariant-loop-root : goal.invariant-loop-root
invariant-loop-root l = Marks l.fn.table l.table (IsTermBelow l.roots l.root-index)
