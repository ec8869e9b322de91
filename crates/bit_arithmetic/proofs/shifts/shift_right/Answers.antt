use Rattle.std.proofs.Common.{◌^◌, ◌<◌, sym, subst}
use Rattle.std.proofs.lemmas.Nat.{pow_pos}
use Rattle.y_tree.proofs.Widths.{shift_right_below}
use Rattle.bit_arithmetic.proofs.Cases.{right_far, right_near}
use Rattle.bit_arithmetic.proofs.shifts.shift_right.Goals as goal

pub invariant_of-result : goal.invariant_of-result
invariant_of-result c = record { some = c.args.word.some; narrow = c.args.word.narrow; below = pow_pos c.args.word.width }

pub returns-then-by-width-clause-bits : goal.returns-then-by-width-clause-bits
returns-then-by-width-clause-bits c = right_far c.args.word.width c.args.word.bits c.args.by c.if-by-width.true

pub invariant_of-result-2 : goal.invariant_of-result-2
invariant_of-result-2 c =
    let w = c.args.word in
    record { some = w.some; narrow = w.narrow; below = subst (λ x. x < 2 ^ w.width) (sym (right_near w.width w.bits c.args.by c.if-by-width.false)) (shift_right_below w.width w.bits c.args.by w.below) }

pub returns-clause-bits : goal.returns-clause-bits
returns-clause-bits c = right_near c.args.word.width c.args.word.bits c.args.by c.if-by-width.false
