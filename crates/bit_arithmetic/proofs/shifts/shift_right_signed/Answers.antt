use Rattle.std.proofs.Common.{◌∙◌, sym}
use Rattle.bit_arithmetic.proofs.Cases.{signed_shift_negative, signed_shift_other}
use Rattle.bit_arithmetic.proofs.shifts.shift_right_signed.Goals as goal

pub returns-then-is_negative-clause-bits : goal.returns-then-is_negative-clause-bits
returns-then-is_negative-clause-bits c =
    let w = c.args.word in
    cc (signed_shift_negative w.width w.bits c.args.by (sym c.is_negative.ensures ∙ c.if-is_negative.true))

pub returns-else-is_negative-clause-bits : goal.returns-else-is_negative-clause-bits
returns-else-is_negative-clause-bits c =
    let w = c.args.word in
    cc (signed_shift_other w.width w.bits c.args.by (sym c.is_negative.ensures ∙ c.if-is_negative.false))
