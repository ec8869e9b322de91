use Rattle.std.proofs.Common.{arith}
use Rattle.model_eval.specs.Known.{found}
use Rattle.model_eval.proofs.Lists.{key_more, key_done}
use Rattle.model_eval.proofs.functions.key_of.Goals as goal

pub loop-term-preserved : goal.loop-term-preserved
loop-term-preserved c =
    key_more (found c.args.known.now.entries) c.args.terms.now c.loop-term.term-index _ c.loop-term.key c.push.new.self c.in_ok-copy_at.field-0 c.loop-term-test.true c.loop-term.invariant c.in_ok-copy_at.ensures c.in_ok-push.ensures.ok

pub returns : goal.returns
returns c = key_done (found c.args.known.now.entries) c.args.terms.now c.loop-term.term-index c.loop-term.key (omega (arith, c.loop-term-test.false)) c.loop-term.invariant
