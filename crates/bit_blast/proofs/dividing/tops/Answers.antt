use Rattle.std.proofs.Common.{◌+◌, ◌-◌, length, arith, ◌∙◌, ap}
use Rattle.std.proofs.lemmas.List.{length_push}
use Rattle.clause_gates.proofs.Growth.{grows_same, grows_more, truth_on}
use Rattle.bit_blast.proofs.Lists.{below_at_on}
use Rattle.bit_blast.proofs.Quotients.{top_none, top_more, each_more}
use Rattle.bit_blast.proofs.dividing.tops.Goals as goal

pub loop-t-init : goal.loop-t-init
loop-t-init c = record {
  grows = grows_same c.args.circuit.now 0;
  count = ap length c.new-all.ensures;
  some = top_none c.args.circuit.now.content c.args.b.now c.args.truth c.opposite-some.result c.requires.truth c.opposite-some.ensures;
  each = λ t d h. absurd (omega (arith, h));
}

pub or_of-requires-clause-truth : goal.or_of-requires-clause-truth
or_of-requires-clause-truth c = truth_on c.args.truth c.loop-t.invariant.grows c.requires.truth

pub or_of-requires-clause-b_known : goal.or_of-requires-clause-b_known
or_of-requires-clause-b_known c = below_at_on c.args.b.now (length c.args.b.now - 1 - c.loop-t.t) _ c.loop-t.invariant.grows c.requires.b_known (omega arith)

pub returns-in_err-next-clause-grows : goal.returns-in_err-next-clause-grows
returns-in_err-next-clause-grows c = grows_more (length c.args.b.now) c.loop-t.invariant.grows c.or_of.ensures.grows (omega arith)

pub loop-t-preserved : goal.loop-t-preserved
loop-t-preserved c = record {
  grows = grows_more (c.loop-t.t + 1) c.loop-t.invariant.grows c.or_of.ensures.grows (omega arith);
  count = ap length c.in_ok-push.ensures.ok ∙ length_push c.loop-t.all c.loop-t.some ∙ omega (arith, c.loop-t.invariant.count);
  some = top_more c.args.b.now c.loop-t.t _ c.loop-t.some c.in_ok-next.next c.or_of.ensures.grows (omega arith) c.loop-t.invariant.some c.in_ok-next.ensures.ok;
  each = each_more c.args.b.now c.loop-t.t c.loop-t.all c.push.new.self c.loop-t.some c.or_of.ensures.grows c.loop-t.invariant.count c.loop-t.invariant.some c.loop-t.invariant.each c.in_ok-push.ensures.ok;
}
