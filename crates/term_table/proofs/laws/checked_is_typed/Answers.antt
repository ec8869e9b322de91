use Rattle.term_table.proofs.Standing.{shape_one}
use Rattle.term_table.proofs.laws.checked_is_typed.Goals as goal

pub returns-clause-one : goal.returns-clause-one
returns-clause-one c w s t u table = shape_one w table s t u
