use Rattle.std.proofs.Common.{◌+◌, ◌*◌, length, arith}
use Rattle.clause_gates.proofs.Growth.{grows_more, truth_on}
use Rattle.bit_blast.proofs.Lists.{below_at_on}
use Rattle.bit_blast.proofs.Orders.{equal_more}
use Rattle.bit_blast.proofs.comparing.equal.Goals as goal

pub xor_of-requires-clause-a_known : goal.xor_of-requires-clause-a_known
xor_of-requires-clause-a_known c = below_at_on c.args.a.now c.loop-i.i _ c.loop-i.invariant.grows c.requires.a_known (omega arith)

pub xor_of-requires-clause-b_known : goal.xor_of-requires-clause-b_known
xor_of-requires-clause-b_known c = below_at_on c.args.b.now c.loop-i.i _ c.loop-i.invariant.grows c.requires.b_known (omega arith)

pub returns-in_err-differ-clause-grows : goal.returns-in_err-differ-clause-grows
returns-in_err-differ-clause-grows c = grows_more (2 * length c.args.a.now) c.loop-i.invariant.grows c.xor_of.ensures.grows (omega arith)

pub and_of-requires-clause-truth : goal.and_of-requires-clause-truth
and_of-requires-clause-truth c = truth_on c.args.truth (grows_more (2 * length c.args.a.now) c.loop-i.invariant.grows c.xor_of.ensures.grows (omega arith)) c.requires.truth

pub returns-in_err-next-clause-grows : goal.returns-in_err-next-clause-grows
returns-in_err-next-clause-grows c =
    grows_more (2 * length c.args.a.now) (grows_more (2 * c.loop-i.i + 1) c.loop-i.invariant.grows c.xor_of.ensures.grows (omega arith)) c.and_of.ensures.grows (omega arith)

pub loop-i-preserved : goal.loop-i-preserved
loop-i-preserved c = record {
  grows = grows_more (2 * (c.loop-i.i + 1)) (grows_more (2 * c.loop-i.i + 1) c.loop-i.invariant.grows c.xor_of.ensures.grows (omega arith)) c.and_of.ensures.grows (omega arith);
  all = equal_more c.args.a.now c.args.b.now c.loop-i.i _ c.loop-i.all (grows_more 2 c.xor_of.ensures.grows c.and_of.ensures.grows (omega arith)) (omega arith) (omega arith)
      c.in_ok-differ.differ c.opposite.result c.in_ok-next.next c.and_of.ensures.grows c.loop-i.invariant.all c.in_ok-differ.ensures.ok c.opposite.ensures c.in_ok-next.ensures.ok;
}
