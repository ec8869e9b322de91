use Rattle.std.proofs.Common.{◌∙◌, sym}
use Rattle.bit_arithmetic.proofs.Cases.{extend_negative, extend_other}
use Rattle.bit_arithmetic.proofs.joins.sign_extend.Goals as goal

pub returns-then-is_negative-clause-bits : goal.returns-then-is_negative-clause-bits
returns-then-is_negative-clause-bits c =
    let w = c.args.word in
    cc (extend_negative w.width c.args.more w.bits w.below (sym c.is_negative.ensures ∙ c.if-is_negative.true))

pub returns-else-is_negative-clause-bits : goal.returns-else-is_negative-clause-bits
returns-else-is_negative-clause-bits c =
    let w = c.args.word in
    cc (extend_other w.width c.args.more w.bits (sym c.is_negative.ensures ∙ c.if-is_negative.false))
