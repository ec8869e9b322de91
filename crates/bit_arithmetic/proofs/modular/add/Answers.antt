use Rattle.std.proofs.Common.{◌+◌, ◌%◌, ◌^◌, refl}
use Rattle.bit_arithmetic.proofs.Moduli.{cut}
use Rattle.bit_arithmetic.proofs.modular.add.Goals as goal

pub returns-clause-bits : goal.returns-clause-bits
returns-clause-bits c =
    let l = c.args.left in
    let r = c.args.right in
    cut l.width 128 ((l.bits + r.bits) % 2 ^ 128) (l.bits + r.bits) c.wrapped.result.bits l.narrow refl c.wrapped.ensures.bits
