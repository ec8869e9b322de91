use Rattle.std.proofs.Common.{take}
use Rattle.clause_trail.specs.Analysis.{Covers}
use Rattle.clause_trail.specs.Analysis.{marks_of}
use Rattle.clause_trail.proofs.analysis.Marks.mark_all.Given as goal

abbrev pub invariant-loop-lit : goal.invariant-loop-lit
invariant-loop-lit l = Covers l.state.order.items l.state.places.items l.start l.bound (take l.lit-index l.lits) (marks_of l.initial.self) (marks_of l.self)
