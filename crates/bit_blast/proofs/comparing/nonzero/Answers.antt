use Rattle.std.proofs.Common.{◌+◌, length, arith}
use Rattle.clause_gates.proofs.Growth.{grows_more}
use Rattle.bit_blast.proofs.Lists.{below_at_on}
use Rattle.bit_blast.proofs.Orders.{some_more}
use Rattle.bit_blast.proofs.comparing.nonzero.Goals as goal

pub or_of-requires-clause-b_known : goal.or_of-requires-clause-b_known
or_of-requires-clause-b_known c = below_at_on c.args.a.now c.loop-i.i _ c.loop-i.invariant.grows c.requires.a_known (omega arith)

pub returns-in_err-next-clause-grows : goal.returns-in_err-next-clause-grows
returns-in_err-next-clause-grows c = grows_more (length c.args.a.now) c.loop-i.invariant.grows c.or_of.ensures.grows (omega arith)

pub loop-i-preserved : goal.loop-i-preserved
loop-i-preserved c = record {
  grows = grows_more (c.loop-i.i + 1) c.loop-i.invariant.grows c.or_of.ensures.grows (omega arith);
  some = some_more c.args.a.now c.loop-i.i _ c.loop-i.some c.in_ok-next.next c.or_of.ensures.grows (omega arith) c.loop-i.invariant.some c.in_ok-next.ensures.ok;
}
