use Rattle.std.proofs.Common.{◌∙◌, ap, Bool}
use Rattle.y_tree.specs.BitVectors.{negate_if}
use Rattle.bit_arithmetic.proofs.signs.magnitude.Goals as goal

pub returns-clause-bits : goal.returns-clause-bits
returns-clause-bits c = c.negate_if.ensures.bits ∙ ap (λ (b : Bool). negate_if b c.args.word.width c.args.word.bits) c.is_negative.ensures
