use Rattle.std.proofs.Common.{◌-◌, arith}
use Rattle.std.proofs.lemmas.Nat.{one_shl}
use Rattle.bit_arithmetic.proofs.words.sign_bit.Goals as goal

pub returns : goal.returns
returns c = one_shl (c.args.width - 1) 128 (omega arith)
