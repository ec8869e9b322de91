use Rattle.fraction128.proofs.Parts.{num_back}
use Rattle.fraction128.proofs.number.Frac.numer.Goals as goal

pub returns : goal.returns
returns c = num_back c.self.inside.num c.self.inside.den c.args.self c.self.invariant c.self.view_is
