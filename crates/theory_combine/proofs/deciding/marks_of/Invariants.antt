use Rattle.std.proofs.Common.{take}
use Rattle.theory_combine.specs.Reading.{marked, AreMarks}
use Rattle.theory_combine.proofs.deciding.marks_of.Given as goal

abbrev pub invariant-loop-lit : goal.invariant-loop-lit
invariant-loop-lit l = AreMarks (take l.lit-index l.core) (marked l.marks)
