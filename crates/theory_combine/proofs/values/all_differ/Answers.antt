use Rattle.theory_combine.proofs.Valuing.{many_alike}
use Rattle.theory_combine.proofs.values.all_differ.Goals as goal

pub returns-in_default : goal.returns-in_default
returns-in_default c = many_alike c.args.values.now c.args.places.now c.in_default.len_at_least
