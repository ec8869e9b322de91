use Rattle.simplex_core.proofs.ConcreteLemmas.{minus_zero, zero_minus}
use Rattle.simplex_core.proofs.concrete.minus.Goals as goal

pub returns-then-is_zero-clause-ok : goal.returns-then-is_zero-clause-ok
returns-then-is_zero-clause-ok c = minus_zero c.args.a c.args.b (c.is_zero.ensures.0 c.if-is_zero.true)

pub returns-then-is_zero-2-clause-ok : goal.returns-then-is_zero-2-clause-ok
returns-then-is_zero-2-clause-ok c = zero_minus c.args.a c.args.b c.neg.result (c.is_zero-2.ensures.0 c.if-is_zero-2.true) c.neg.ensures
