use Rattle.std.proofs.Common.{◌^◌, ◌<◌, sym, subst}
use Rattle.y_tree.proofs.Widths.{xor_below}
use Rattle.bit_arithmetic.proofs.bitwise.differ_by_bits.Goals as goal

pub invariant_of-result : goal.invariant_of-result
invariant_of-result c =
    let l = c.args.left in
    let r = c.args.right in
    record { some = l.some; narrow = l.narrow; below = xor_below l.width l.bits r.bits l.below (subst (λ n. r.bits < 2 ^ n) (sym c.requires) r.below) }
