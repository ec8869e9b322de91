use Rattle.std.proofs.Common.{arith}
use Rattle.bit_arithmetic.proofs.orders.signed_at_least.Goals as goal

pub returns : goal.returns
returns c = first_of (cc, grind arith)
