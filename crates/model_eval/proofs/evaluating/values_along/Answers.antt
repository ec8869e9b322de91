use Rattle.std.proofs.Common.{arith}
use Rattle.model_eval.specs.Models.{assignment_of}
use Rattle.model_eval.proofs.Passes.{pass_more, pass_argument, pass_done, live_there, among}
use Rattle.model_eval.proofs.evaluating.values_along.Goals as goal

pub step-requires-clause-live : goal.step-requires-clause-live
step-requires-clause-live c = live_there c.args.table.now c.requires.order.0 c.args.order.now c.requires.order.1 c.loop-term.term-index _ c.loop-term-test.true

pub step-requires-clause-arguments : goal.step-requires-clause-arguments
step-requires-clause-arguments c =
    pass_argument c.args.table.now (assignment_of c.args.table.now c.args.model.now) c.requires.order.0 c.args.order.now c.requires.order.1 c.loop-term.known.entries c.loop-term.term-index _ c.loop-term-test.true c.loop-term.invariant

pub loop-term-preserved : goal.loop-term-preserved
loop-term-preserved c =
    pass_more c.args.table.now (assignment_of c.args.table.now c.args.model.now) c.args.order.now c.loop-term.known.entries c.step.new.known.entries c.loop-term.term-index _ c.loop-term-test.true c.loop-term.invariant c.in-Ok.ensures.entered

pub returns-in-Err-clause-refused : goal.returns-in-Err-clause-refused
returns-in-Err-clause-refused c =
    among c.args.table.now (assignment_of c.args.table.now c.args.model.now) c.args.order.now c.loop-term.term-index _ c.loop-term-test.true c.in-Err.error c.in-Err.ensures.refused

pub returns-clause-values : goal.returns-clause-values
returns-clause-values c =
    pass_done c.args.table.now (assignment_of c.args.table.now c.args.model.now) c.args.order.now c.loop-term.known.entries c.loop-term.term-index (omega (arith, c.loop-term-test.false)) c.loop-term.invariant
