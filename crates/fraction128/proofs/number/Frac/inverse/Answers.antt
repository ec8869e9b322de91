-- The parts of a number that is not 0, the other way round, are in lowest terms.
use Rattle.fraction128.proofs.Narrow.{inverse_size, inverse_lowest, inverse_value}
use Rattle.std.proofs.Common.{◌∙◌}
use Rattle.fraction128.proofs.number.Frac.inverse.Goals as goal

pub make-requires-clause-positive : goal.make-requires-clause-positive
make-requires-clause-positive c = inverse_size c.args.self c.size.result c.size.ensures.value c.requires

pub make-requires-clause-lowest : goal.make-requires-clause-lowest
make-requires-clause-lowest c = inverse_lowest c.args.self c.below.result c.size.result c.below.ensures.value c.size.ensures.value

pub returns : goal.returns
returns c = c.make.ensures ∙ inverse_value c.args.self c.is_negative.result c.below.result c.size.result c.is_negative.ensures.value c.below.ensures.value c.size.ensures.value
