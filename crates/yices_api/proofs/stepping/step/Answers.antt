use Rattle.yices_api.proofs.Printing.{step_printable}
use Rattle.yices_api.proofs.stepping.step.Goals as goal

pub returns-clause-printable : goal.returns-clause-printable
returns-clause-printable c = step_printable c.args.env.now c.answer-reply.new.env c.args.call.now c.answer-reply.result c.answer-reply.ensures c.is_world.ensures
