use Rattle.std.proofs.Common.{arith}
use Rattle.y_tree.proofs.Widths.{zero_extend_below}
use Rattle.bit_arithmetic.proofs.joins.zero_extend.Goals as goal

pub invariant_of-result : goal.invariant_of-result
invariant_of-result c =
    let w = c.args.word in
    record { some = omega arith; narrow = c.requires; below = zero_extend_below w.width c.args.more w.bits w.below }
