use Rattle.yices_api.proofs.Lasting.{runs_freed}
use Rattle.yices_api.proofs.laws.runs_last.Goals as goal

pub returns-clause-contexts : goal.returns-clause-contexts
returns-clause-contexts c first last cs rs h runs freed = runs_freed first last cs rs h runs freed
