use Rattle.std.proofs.Common.{subst}
use Rattle.yices_session.specs.Answers.{Refuses}
use Rattle.yices_cli.proofs.answering.exit_of.Goals as goal

pub returns-in-Refused : goal.returns-in-Refused
returns-in-Refused c = λ old new k h. (new, subst (λ why. Refuses k old why new) c.in-Refused.is h)

pub returns-in-NoMemory : goal.returns-in-NoMemory
returns-in-NoMemory c = λ old new k h. tt
