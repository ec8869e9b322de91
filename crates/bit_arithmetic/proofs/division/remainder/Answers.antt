use Rattle.std.proofs.Common.{◌^◌, ◌<◌, sym, subst}
use Rattle.y_tree.proofs.Widths.{remainder_below}
use Rattle.bit_arithmetic.proofs.Cases.{remainder_zero, remainder_some}
use Rattle.bit_arithmetic.proofs.division.remainder.Goals as goal

pub returns-then-right-eq0-clause-bits : goal.returns-then-right-eq0-clause-bits
returns-then-right-eq0-clause-bits c = remainder_zero c.args.left.bits c.args.right.bits c.if-right-eq0.true

pub invariant_of-result : goal.invariant_of-result
invariant_of-result c =
    let l = c.args.left in
    let r = c.args.right in
    record { some = l.some; narrow = l.narrow; below = subst (λ x. x < 2 ^ l.width) (sym (remainder_some l.bits r.bits c.if-right-eq0.false)) (remainder_below l.width l.bits r.bits l.below) }

pub returns-clause-bits : goal.returns-clause-bits
returns-clause-bits c = remainder_some c.args.left.bits c.args.right.bits c.if-right-eq0.false
