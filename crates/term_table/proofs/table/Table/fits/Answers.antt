use Rattle.std.proofs.Common.{subst}
use Rattle.term_table.specs.Checking.{Wants}
use Rattle.term_table.proofs.Rows.{same_fits, same_type}
use Rattle.term_table.proofs.table.Table.fits.Goals as goal

pub returns-in-Same : goal.returns-in-Same
returns-in-Same c v k wants keeps =
    same_fits c.args.self.now c.is_table.ensures c.in-Same.of c.args.found c.eq.result (same_type c.in-Same.of c.args.found c.eq.result c.eq.ensures) v k (subst (λ z. Wants c.args.self.now z v) c.in-Same.is wants) keeps
