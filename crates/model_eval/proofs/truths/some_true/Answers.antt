use Rattle.model_eval.specs.Known.{found}
use Rattle.model_eval.proofs.Lists.{any_skip, any_stop, any_ended}
use Rattle.std.proofs.Common.{arith}
use Rattle.model_eval.proofs.truths.some_true.Goals as goal

pub returns-then-truth_at : goal.returns-then-truth_at
returns-then-truth_at c =
    any_stop (found c.args.known.now.entries) c.args.terms.now c.loop-term.term-index _ c.loop-term-test.true c.truth_at.result c.truth_at.ensures c.if-truth_at.true c.loop-term.invariant

pub loop-term-preserved : goal.loop-term-preserved
loop-term-preserved c =
    any_skip (found c.args.known.now.entries) c.args.terms.now c.loop-term.term-index _ c.loop-term-test.true c.truth_at.result c.truth_at.ensures c.if-truth_at.false c.loop-term.invariant

pub returns : goal.returns
returns c = any_ended (found c.args.known.now.entries) c.args.terms.now c.loop-term.term-index (omega (arith, c.loop-term-test.false)) c.loop-term.invariant
