use Rattle.yices_cli.proofs.Endings.{headline_at}
use Rattle.yices_cli.proofs.run.run.Goals as goal

pub returns : goal.returns
returns g c = record { headline = headline_at _ _ _ _ _ _ c.answer-exit.ensures c.end.ensures }
