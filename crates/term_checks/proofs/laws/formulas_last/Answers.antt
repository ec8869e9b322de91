use Rattle.term_checks.proofs.Carried.{formulas_last}
use Rattle.term_checks.proofs.laws.formulas_last.Goals as goal

pub returns : goal.returns
returns c = formulas_last
