use Rattle.model_eval.specs.Known.{found}
use Rattle.model_eval.proofs.Lists.{all_skip, all_stop, all_ended}
use Rattle.std.proofs.Common.{arith}
use Rattle.model_eval.proofs.truths.all_true.Goals as goal

pub returns-then-not-truth_at : goal.returns-then-not-truth_at
returns-then-not-truth_at c =
    all_stop (found c.args.known.now.entries) c.args.terms.now c.loop-term.term-index _ c.loop-term-test.true c.truth_at.result c.truth_at.ensures c.if-not-truth_at.true c.loop-term.invariant

pub loop-term-preserved : goal.loop-term-preserved
loop-term-preserved c =
    all_skip (found c.args.known.now.entries) c.args.terms.now c.loop-term.term-index _ c.loop-term-test.true c.truth_at.result c.truth_at.ensures c.if-not-truth_at.false c.loop-term.invariant

pub returns : goal.returns
returns c = all_ended (found c.args.known.now.entries) c.args.terms.now c.loop-term.term-index (omega (arith, c.loop-term-test.false)) c.loop-term.invariant
