use Rattle.std.proofs.Common.{◌+◌, ◌^◌, ◌<◌, sym, subst, arith}
use Rattle.y_tree.proofs.Widths.{concatenate_below}
use Rattle.bit_arithmetic.proofs.Moduli.{beside}
use Rattle.bit_arithmetic.proofs.joins.concatenate.Goals as goal

pub invariant_of-result : goal.invariant_of-result
invariant_of-result c =
    let h = c.args.high in
    let l = c.args.low in
    record {
      some = omega arith;
      narrow = c.requires;
      below = subst (λ x. x < 2 ^ (h.width + l.width)) (sym (beside h.width l.width 128 h.bits l.bits h.below l.below c.requires)) (concatenate_below h.width l.width h.bits l.bits h.below l.below);
    }

pub returns-clause-bits : goal.returns-clause-bits
returns-clause-bits c = beside c.args.high.width c.args.low.width 128 c.args.high.bits c.args.low.bits c.args.high.below c.args.low.below c.requires
