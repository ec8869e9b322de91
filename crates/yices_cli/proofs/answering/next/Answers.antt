use Rattle.std.proofs.Common.{ap, Ok}
use Rattle.yices_cli.proofs.answering.next.Goals as goal

pub returns-in-Ok-clause-waiting : goal.returns-in-Ok-clause-waiting
returns-in-Ok-clause-waiting c = λ is unfinished. c.in-Ok.ensures.waiting (ap Ok is) unfinished
