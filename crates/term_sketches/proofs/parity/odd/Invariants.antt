use Rattle.std.proofs.Common.{◌≡◌, drop}
use Rattle.term_sketches.specs.Sketches.{odd_atoms}
use Rattle.term_sketches.proofs.parity.odd.Given as goal

abbrev pub invariant-loop-place : goal.invariant-loop-place
invariant-loop-place l = l.set ≡ odd_atoms (drop l.place l.literals)
