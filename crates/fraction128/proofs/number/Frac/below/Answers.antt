use Rattle.std.proofs.Common.{ap, unsigned_abs}
use Rattle.fraction128.proofs.Parts.{den_back}
use Rattle.fraction128.proofs.number.Frac.below.Goals as goal

pub returns-clause-value : goal.returns-clause-value
returns-clause-value c = ap unsigned_abs (den_back c.self.inside.num c.self.inside.den c.args.self c.self.invariant c.self.view_is)
