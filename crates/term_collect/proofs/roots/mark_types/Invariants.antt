use Rattle.term_collect.specs.Marking.{Marks, IsTypeBelow}
use Rattle.term_collect.proofs.roots.mark_types.Given as goal

abbrev pub invariant-loop-root : goal.invariant-loop-root
invariant-loop-root l = Marks l.fn.table l.table (IsTypeBelow l.roots l.root-index)
