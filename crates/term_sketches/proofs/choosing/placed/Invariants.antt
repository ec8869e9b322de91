use Rattle.std.proofs.Common.{◌≡◌, drop}
use Rattle.term_sketches.specs.Sketches.{all_placed}
use Rattle.term_sketches.proofs.choosing.placed.Given as goal

abbrev pub invariant-loop-place : goal.invariant-loop-place
invariant-loop-place l = l.set ≡ all_placed (drop l.place l.literals)
