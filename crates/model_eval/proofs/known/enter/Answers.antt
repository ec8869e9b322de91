use Rattle.model_eval.proofs.known.enter.Goals as goal

pub returns-in-Ok-clause-ok : goal.returns-in-Ok-clause-ok
returns-in-Ok-clause-ok c = record { here = c.in-Ok.ensures.updates.1; others = c.in-Ok.ensures.updates.2 }
