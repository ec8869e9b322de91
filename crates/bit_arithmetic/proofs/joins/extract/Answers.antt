use Rattle.bit_arithmetic.proofs.joins.extract.Goals as goal

pub returns-clause-bits : goal.returns-clause-bits
returns-clause-bits c = c.wrapped.ensures.bits
