use Rattle.yices_commands.specs.Plain.{plain_command}
use Rattle.yices_session.specs.Answers.{Answers}
use Rattle.yices_session.specs.Replies.{reply_text}
use Rattle.yices_cli.proofs.Replying.{reply_is}
use Rattle.yices_cli.proofs.answering.answer.Goals as goal

pub returns-clause-step : goal.returns-clause-step
returns-clause-step c =
    reply_is _ c.outcome.result (λ r. Answers (plain_command c.args.command) c.args.session.now (reply_text r) c.answer.new.self) c.outcome.ensures.reply c.answer.ensures.step

pub returns-clause-cause : goal.returns-clause-cause
returns-clause-cause c = c.outcome.ensures.stop c.args.session.now c.answer.new.self (plain_command c.args.command) c.answer.ensures.stopped
