use Rattle.std.proofs.Common.{◌+◌, ◌*◌, length, arith}
use Rattle.clause_gates.proofs.Growth.{grows_more, truth_on}
use Rattle.bit_blast.proofs.Lists.{below_at_on}
use Rattle.bit_blast.proofs.Sums.{sum_more}
use Rattle.bit_blast.proofs.adding.ripple.Goals as goal

pub sum_of-requires-clause-truth : goal.sum_of-requires-clause-truth
sum_of-requires-clause-truth c = truth_on c.args.truth c.loop-i.invariant.grows c.requires.truth

pub sum_of-requires-clause-a_known : goal.sum_of-requires-clause-a_known
sum_of-requires-clause-a_known c = below_at_on c.args.a.now c.loop-i.i _ c.loop-i.invariant.grows c.requires.a_known (omega arith)

pub sum_of-requires-clause-b_known : goal.sum_of-requires-clause-b_known
sum_of-requires-clause-b_known c = below_at_on c.args.b.now c.loop-i.i _ c.loop-i.invariant.grows c.requires.b_known (omega arith)

pub carry_of-requires-clause-truth : goal.carry_of-requires-clause-truth
carry_of-requires-clause-truth c = truth_on c.args.truth (grows_more (2 * length c.args.a.now) c.loop-i.invariant.grows c.sum_of.ensures.grows (omega arith)) c.requires.truth

pub carry_of-requires-clause-a_known : goal.carry_of-requires-clause-a_known
carry_of-requires-clause-a_known c = below_at_on c.args.a.now c.loop-i.i _ (grows_more (2 * length c.args.a.now) c.loop-i.invariant.grows c.sum_of.ensures.grows (omega arith)) c.requires.a_known (omega arith)

pub carry_of-requires-clause-b_known : goal.carry_of-requires-clause-b_known
carry_of-requires-clause-b_known c = below_at_on c.args.b.now c.loop-i.i _ (grows_more (2 * length c.args.a.now) c.loop-i.invariant.grows c.sum_of.ensures.grows (omega arith)) c.requires.b_known (omega arith)

pub returns-in_err-next-clause-grows : goal.returns-in_err-next-clause-grows
returns-in_err-next-clause-grows c =
    grows_more (2 * length c.args.a.now) (grows_more (2 * c.loop-i.i + 1) c.loop-i.invariant.grows c.sum_of.ensures.grows (omega arith)) c.carry_of.ensures.grows (omega arith)

pub returns-in_err-push-clause-grows : goal.returns-in_err-push-clause-grows
returns-in_err-push-clause-grows c =
    grows_more (2 * length c.args.a.now) (grows_more (2 * c.loop-i.i + 1) c.loop-i.invariant.grows c.sum_of.ensures.grows (omega arith)) c.carry_of.ensures.grows (omega arith)

pub loop-i-preserved : goal.loop-i-preserved
loop-i-preserved c = record {
  grows = grows_more (2 * (c.loop-i.i + 1)) (grows_more (2 * c.loop-i.i + 1) c.loop-i.invariant.grows c.sum_of.ensures.grows (omega arith)) c.carry_of.ensures.grows (omega arith);
  sum = sum_more c.args.a.now c.args.b.now c.loop-i.i _ c.args.first c.loop-i.carry c.in_ok-sum.sum c.in_ok-next.next c.loop-i.bits c.push.new.self c.sum_of.ensures.grows c.carry_of.ensures.grows
      c.loop-i.invariant.sum c.in_ok-sum.ensures.ok c.in_ok-next.ensures.ok (omega arith) (omega arith) c.in_ok-push.ensures.ok;
}
