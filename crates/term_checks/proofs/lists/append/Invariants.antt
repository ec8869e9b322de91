use Rattle.std.proofs.Common.{◌≡◌, ◌++◌, take}
use Rattle.term_checks.proofs.lists.append.Given as goal

abbrev pub invariant-loop-term : goal.invariant-loop-term
invariant-loop-term l = l.list ≡ l.initial.list ++ take l.term-index l.terms
