use Rattle.std.proofs.Common.{◌*◌, ◌%◌, ◌^◌, refl}
use Rattle.std.proofs.lemmas.Nat.{pow_pos}
use Rattle.bit_arithmetic.proofs.Cases.{left_far, left_near}
use Rattle.bit_arithmetic.proofs.shifts.shift_left.Goals as goal

pub invariant_of-result : goal.invariant_of-result
invariant_of-result c = record { some = c.args.word.some; narrow = c.args.word.narrow; below = pow_pos c.args.word.width }

pub returns-then-by-width-clause-bits : goal.returns-then-by-width-clause-bits
returns-then-by-width-clause-bits c = left_far c.args.word.width c.args.word.bits c.args.by c.if-by-width.true

pub returns-clause-bits : goal.returns-clause-bits
returns-clause-bits c =
    let w = c.args.word in
    left_near w.width 128 w.bits c.args.by (w.bits * 2 ^ c.args.by % 2 ^ 128) c.wrapped.result.bits w.narrow c.if-by-width.false refl c.wrapped.ensures.bits
