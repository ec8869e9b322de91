use Rattle.rationals.specs.Rational.{◌*ℚ◌}
use Rattle.fraction128.specs.Exact.{fits, sum_fits}
use Rattle.simplex_table.specs.View.{delta_of}
use Rattle.simplex_core.proofs.ConcreteLemmas.{ok_is, concrete_sum}
use Rattle.simplex_core.proofs.concrete.concrete_value.Goals as goal

pub returns-in-Ok-clause-ok : goal.returns-in-Ok-clause-ok
returns-in-Ok-clause-ok c =
    let p = ok_is (fits (c.args.step *ℚ c.args.at.now.inf)) c.mul.result (c.args.step *ℚ c.args.at.now.inf) c.in-Ok.product _ c.mul.ensures c.in-Ok.is in
    concrete_sum (sum_fits c.args.at.now.real c.in-Ok.product) c.add.result c.args.step c.in-Ok.product (delta_of c.args.at.now) _ c.add.ensures p
