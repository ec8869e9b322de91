use Rattle.fraction128.proofs.Parts.{neg_back}
use Rattle.fraction128.proofs.number.Frac.neg.Goals as goal

pub returns : goal.returns
returns c = neg_back c.self.inside.num c.self.inside.den c.args.self c.self.invariant c.self.view_is
