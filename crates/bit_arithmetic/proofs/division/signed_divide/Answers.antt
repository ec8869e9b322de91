use Rattle.std.proofs.Common.{arith}
use Rattle.bit_arithmetic.proofs.division.signed_divide.Goals as goal

pub returns-clause-bits : goal.returns-clause-bits
returns-clause-bits c = first_of (cc, grind arith)
