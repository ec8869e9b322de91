use Rattle.std.proofs.Common.{Err, ap}
use Rattle.script_session.proofs.Texts.{long_variable}
use Rattle.script_session.proofs.replies.push_variable.Goals as goal

pub returns-in-Err-TooLong-clause-long : goal.returns-in-Err-TooLong-clause-long
returns-in-Err-TooLong-clause-long c = λ _. long_variable c.args.table.now c.args.variable (c.in-Err-TooLong.ensures.long (ap Err c.in-Err-TooLong.field-0-is))
