use Rattle.fraction128.proofs.Parts.{den_back}
use Rattle.fraction128.proofs.number.Frac.denom.Goals as goal

pub returns : goal.returns
returns c = den_back c.self.inside.num c.self.inside.den c.args.self c.self.invariant c.self.view_is
