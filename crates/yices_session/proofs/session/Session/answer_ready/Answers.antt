use Rattle.yices_session.proofs.Answering.{check_does}
use Rattle.yices_session.proofs.session.Session.answer_ready.Goals as goal

pub returns-in-Check-clause-does : goal.returns-in-Check-clause-does
returns-in-Check-clause-does c = check_does c.args.self.now.turns c.args.command.now.action c.args.self.now c.check.new.self c.check.result c.in-Check.is c.check.ensures.step
