use Rattle.std.proofs.Common.{zero, suc, refl}
use Rattle.clause_logic.specs.Clauses.{Listed}
use Rattle.theory_combine.proofs.Extending.{stays_new}
use Rattle.theory_combine.proofs.records_stay.Goals as goal

pub returns : goal.returns
returns c = λ nodes n lits earlier d formed fits below known new.
    stays_new nodes n lits (Listed earlier) formed fits.earlier below (λ e h l i. known (suc h.0) e l h.1 i) d (λ l i. known zero d l refl i) new
