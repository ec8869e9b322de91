-- A number is 0 where the size of its numerator is.
use Rattle.fraction128.proofs.Narrow.{zero_test}
use Rattle.fraction128.proofs.number.Frac.is_zero.Goals as goal

pub returns : goal.returns
returns c = zero_test c.args.self c.size.result c.size.ensures.value
