use Rattle.std.proofs.Common.{◌∙◌, ◌^◌, ◌<◌, sym, subst, arith}
use Rattle.std.proofs.lemmas.Nat.{pow_pos}
use Rattle.y_tree.proofs.Widths.{divide_below}
use Rattle.bit_arithmetic.proofs.Cases.{divide_zero, divide_some}
use Rattle.bit_arithmetic.proofs.division.divide.Goals as goal

pub invariant_of-result : goal.invariant_of-result
invariant_of-result c = record { some = c.args.left.some; narrow = c.args.left.narrow; below = omega (arith, pow_pos c.args.left.width) }

pub returns-then-right-eq0-clause-bits : goal.returns-then-right-eq0-clause-bits
returns-then-right-eq0-clause-bits c = c.ones-bits.ensures ∙ divide_zero c.args.left.width c.args.left.bits c.args.right.bits c.if-right-eq0.true

pub invariant_of-result-2 : goal.invariant_of-result-2
invariant_of-result-2 c =
    let l = c.args.left in
    let r = c.args.right in
    record { some = l.some; narrow = l.narrow; below = subst (λ x. x < 2 ^ l.width) (sym (divide_some l.width l.bits r.bits c.if-right-eq0.false)) (divide_below l.width l.bits r.bits l.below) }

pub returns-clause-bits : goal.returns-clause-bits
returns-clause-bits c = divide_some c.args.left.width c.args.left.bits c.args.right.bits c.if-right-eq0.false
