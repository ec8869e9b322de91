use Rattle.std.proofs.Common.{◌≡◌, drop}
use Rattle.term_sketches.specs.Sketches.{is_odd_negated}
use Rattle.term_sketches.proofs.parity.negations_are_odd.Given as goal

abbrev pub invariant-loop-place : goal.invariant-loop-place
invariant-loop-place l = l.odd ≡ is_odd_negated (drop l.place l.literals)
