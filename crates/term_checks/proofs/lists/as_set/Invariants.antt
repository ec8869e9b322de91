use Rattle.std.proofs.Common.{◌≡◌, take}
use Rattle.term_checks.proofs.lists.as_set.Given as goal

abbrev pub invariant-loop-term : goal.invariant-loop-term
invariant-loop-term l = l.order.keys ≡ take l.term-index l.terms
