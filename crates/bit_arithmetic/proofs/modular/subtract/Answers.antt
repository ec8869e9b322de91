use Rattle.std.proofs.Common.{◌+◌, ◌-◌, ◌%◌, ◌^◌, ◌<◌, refl, sym, subst}
use Rattle.bit_arithmetic.proofs.Moduli.{cut_difference}
use Rattle.bit_arithmetic.proofs.modular.subtract.Goals as goal

pub returns-clause-bits : goal.returns-clause-bits
returns-clause-bits c =
    let l = c.args.left in
    let r = c.args.right in
    let below : r.bits < 2 ^ l.width = subst (λ n. r.bits < 2 ^ n) (sym c.requires) r.below in
    cut_difference l.width 128 l.bits r.bits ((l.bits + (2 ^ 128 - r.bits)) % 2 ^ 128) c.wrapped.result.bits l.narrow below refl c.wrapped.ensures.bits
