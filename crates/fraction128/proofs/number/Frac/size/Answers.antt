use Rattle.std.proofs.Common.{ap, ◌∙◌, unsigned_abs}
use Rattle.fraction128.proofs.Parts.{num_back}
use Rattle.fraction128.proofs.number.Frac.size.Goals as goal

pub returns-clause-value : goal.returns-clause-value
returns-clause-value c = c.unsigned_abs.ensures.value ∙ ap unsigned_abs (num_back c.self.inside.num c.self.inside.den c.args.self c.self.invariant c.self.view_is)
