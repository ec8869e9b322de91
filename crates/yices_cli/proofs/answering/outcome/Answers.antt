use Rattle.std.proofs.Common.{subst}
use Rattle.std.specs.Prelude.{IfErr}
use Rattle.yices_session.specs.Answers.{Refuses}
use Rattle.yices_cli.proofs.answering.outcome.Goals as goal

pub returns-in-Err-clause-stop : goal.returns-in-Err-clause-stop
returns-in-Err-clause-stop c = λ old new k h. c.exit_of.ensures old new k (subst (λ a. IfErr a (λ why. Refuses k old why new)) c.in-Err.is h)
