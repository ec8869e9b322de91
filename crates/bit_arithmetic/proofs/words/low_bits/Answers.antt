use Rattle.bit_arithmetic.proofs.Moduli.{masked}
use Rattle.bit_arithmetic.proofs.words.low_bits.Goals as goal

pub returns : goal.returns
returns c = masked c.args.width c.args.number c.ones.result c.ones.ensures
