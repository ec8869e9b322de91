use Rattle.bit_arithmetic.proofs.Pairs.{takes_pair_of}
use Rattle.bit_arithmetic.proofs.tests.over_words.Goals as goal

pub apply-requires : goal.apply-requires
apply-requires c = takes_pair_of c.args.op c.args.first c.args.second c.requires c.in_default.not-Neg c.in_default.not-Not c.in_default.not-Concat
