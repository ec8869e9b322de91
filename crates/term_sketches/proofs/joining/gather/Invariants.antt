use Rattle.std.proofs.Common.{◌≡◌, drop}
use Rattle.term_sketches.specs.Sketches.{gathered}
use Rattle.term_sketches.proofs.joining.gather.Given as goal

abbrev pub invariant-loop-place : goal.invariant-loop-place
invariant-loop-place l = l.set ≡ gathered l.neutral (drop l.place l.literals)
