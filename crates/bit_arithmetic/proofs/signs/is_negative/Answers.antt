use Rattle.std.proofs.Common.{ap}
use Rattle.std.specs.Prelude.{nat_le}
use Rattle.bit_arithmetic.proofs.signs.is_negative.Goals as goal

pub returns : goal.returns
returns c = ap (λ p. nat_le p c.args.word.bits) c.sign_bit.ensures
