use Rattle.std.proofs.Common.{◌+◌, length, arith}
use Rattle.clause_gates.specs.Bits.{value_under}
use Rattle.bit_blast.specs.Bitwise.{pair_value}
use Rattle.clause_gates.proofs.Growth.{grows_more, truth_on}
use Rattle.bit_blast.proofs.Lists.{below_at_on}
use Rattle.bit_blast.proofs.Rows.{bits_more}
use Rattle.bit_blast.proofs.bitwise.each.Goals as goal

pub apply-requires-clause-truth : goal.apply-requires-clause-truth
apply-requires-clause-truth c = truth_on c.args.truth c.loop-i.invariant.grows c.requires.truth

pub apply-requires-clause-a_known : goal.apply-requires-clause-a_known
apply-requires-clause-a_known c = below_at_on c.args.a.now c.loop-i.i _ c.loop-i.invariant.grows c.requires.a_known (omega arith)

pub apply-requires-clause-b_known : goal.apply-requires-clause-b_known
apply-requires-clause-b_known c = below_at_on c.args.b.now c.loop-i.i _ c.loop-i.invariant.grows c.requires.b_known (omega arith)

pub returns-in_err-g-clause-grows : goal.returns-in_err-g-clause-grows
returns-in_err-g-clause-grows c = grows_more (length c.args.a.now) c.loop-i.invariant.grows c.apply.ensures.grows (omega arith)

pub returns-in_err-push-clause-grows : goal.returns-in_err-push-clause-grows
returns-in_err-push-clause-grows c = grows_more (length c.args.a.now) c.loop-i.invariant.grows c.apply.ensures.grows (omega arith)

pub loop-i-preserved : goal.loop-i-preserved
loop-i-preserved c = record {
  grows = grows_more (c.loop-i.i + 1) c.loop-i.invariant.grows c.apply.ensures.grows (omega arith);
  bits = bits_more (λ s. pair_value c.args.pairing (value_under s c.args.flag)) c.args.a.now c.args.b.now c.loop-i.i _ c.in_ok-g.g c.loop-i.bits c.push.new.self c.apply.ensures.grows
      c.loop-i.invariant.bits c.in_ok-g.ensures.ok (omega arith) (omega arith) c.in_ok-push.ensures.ok;
}
