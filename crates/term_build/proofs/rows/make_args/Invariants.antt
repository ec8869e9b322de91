use Rattle.std.proofs.Common.{◌≡◌, take}
use Rattle.term_build.proofs.rows.make_args.Given as goal

abbrev pub invariant-loop-term : goal.invariant-loop-term
invariant-loop-term l = l.args ≡ take l.term-index l.terms
