use Rattle.std.proofs.Common.{◌+◌, ◌-◌, ◌%◌, ◌^◌, refl}
use Rattle.bit_arithmetic.proofs.Moduli.{cut_negation}
use Rattle.bit_arithmetic.proofs.modular.negate.Goals as goal

pub returns-clause-bits : goal.returns-clause-bits
returns-clause-bits c =
    let w = c.args.word in
    cut_negation w.width 128 w.bits ((0 + (2 ^ 128 - w.bits)) % 2 ^ 128) c.wrapped.result.bits w.narrow w.below refl c.wrapped.ensures.bits
