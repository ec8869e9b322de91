use Rattle.script_session.proofs.Doings.{stops_told}
use Rattle.script_session.proofs.session.ScriptSession.answer.Goals as goal

pub returns-in-Err-clause-stopped : goal.returns-in-Err-clause-stopped
returns-in-Err-clause-stopped c = rw c.stop_of.ensures (stops_told c.args.self.now c.args.end c.args.line.now c.in-Err.error c.line_number.result c.line_number.ensures c.in-Err.ensures.refused)
