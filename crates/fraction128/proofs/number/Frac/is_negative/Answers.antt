use Rattle.std.proofs.Common.{ap, ◌∙◌, unsigned_abs}
use Rattle.fraction128.proofs.Parts.{num_back, sign_is}
use Rattle.fraction128.proofs.number.Frac.is_negative.Goals as goal
use Rattle.std.proofs.Common.{int_lt, pos}
use Rattle.fraction128.specs.Exact.{with_sign}

pub returns-clause-value : goal.returns-clause-value
returns-clause-value c =
    ap (λ z. int_lt z (pos 0)) (num_back c.self.inside.num c.self.inside.den c.args.self c.self.invariant c.self.view_is)

pub returns-clause-sign : goal.returns-clause-sign
returns-clause-sign c =
    ap (λ z. with_sign (int_lt z (pos 0)) (unsigned_abs c.args.self.num)) (num_back c.self.inside.num c.self.inside.den c.args.self c.self.invariant c.self.view_is)
    ∙ sign_is c.args.self.num
