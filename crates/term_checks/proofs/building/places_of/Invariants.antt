use Rattle.std.proofs.Common.{take}
use Rattle.term_checks.specs.Building.{AreAt}
use Rattle.term_checks.proofs.building.places_of.Given as goal

abbrev pub invariant-loop-term : goal.invariant-loop-term
invariant-loop-term l = AreAt l.order.keys (take l.term-index l.terms) l.places
