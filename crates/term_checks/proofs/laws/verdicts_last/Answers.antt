use Rattle.term_checks.proofs.Carried.{models_last, cores_last, learned_lasts, other_sorts_last}
use Rattle.term_checks.proofs.laws.verdicts_last.Goals as goal

pub returns-clause-models : goal.returns-clause-models
returns-clause-models c = models_last

pub returns-clause-cores : goal.returns-clause-cores
returns-clause-cores c = cores_last

pub returns-clause-learned : goal.returns-clause-learned
returns-clause-learned c = learned_lasts

pub returns-clause-refused : goal.returns-clause-refused
returns-clause-refused c = other_sorts_last
