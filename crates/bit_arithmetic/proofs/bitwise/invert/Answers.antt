use Rattle.std.proofs.Common.{◌-◌, ap, arith}
use Rattle.std.proofs.lemmas.Nat.{pow_pos}
use Rattle.bit_arithmetic.proofs.bitwise.invert.Goals as goal

pub invariant_of-result : goal.invariant_of-result
invariant_of-result c = record { some = c.args.word.some; narrow = c.args.word.narrow; below = omega (arith, pow_pos c.args.word.width) }

pub returns-clause-bits : goal.returns-clause-bits
returns-clause-bits c = ap (λ x. x - c.args.word.bits) c.ones.ensures
