use Rattle.std.proofs.Common.{◌∙◌, ◌+◌, ◌%◌, ◌^◌, refl, ap}
use Rattle.y_tree.specs.BitVectors.{wrap}
use Rattle.bit_arithmetic.proofs.Moduli.{cut}
use Rattle.bit_arithmetic.proofs.orders.from_lowest.Goals as goal

pub returns : goal.returns
returns c =
    let w = c.args.word in
    let s = c.sign_bit.result in
    cut w.width 128 ((w.bits + s) % 2 ^ 128) (w.bits + s) c.wrapped.result.bits w.narrow refl c.wrapped.ensures.bits ∙ ap (λ x. wrap w.width (w.bits + x)) c.sign_bit.ensures
