use Rattle.yices_api.proofs.Lasting.{step_lasts}
use Rattle.yices_api.proofs.laws.steps_last.Goals as goal

pub returns-clause-lasts : goal.returns-clause-lasts
returns-clause-lasts c old new call reply world step = step_lasts old new call reply world step
