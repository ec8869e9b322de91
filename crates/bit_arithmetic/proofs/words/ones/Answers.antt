use Rattle.bit_arithmetic.proofs.Moduli.{ones_cut}
use Rattle.bit_arithmetic.proofs.words.ones.Goals as goal

pub returns : goal.returns
returns c = ones_cut c.args.width 128 c.requires.narrow
