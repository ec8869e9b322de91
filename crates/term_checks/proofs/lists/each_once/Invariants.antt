use Rattle.term_checks.specs.Listing.{AreOnce}
use Rattle.term_checks.proofs.lists.each_once.Given as goal

abbrev pub invariant-loop-term : goal.invariant-loop-term
invariant-loop-term l = AreOnce l.terms l.term-index l.once.keys
