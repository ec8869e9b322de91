-- one is in lowest terms.
use Rattle.std.proofs.Common.{arith}
use Rattle.std.proofs.lemmas.Int.{ints}
use Rattle.rationals.specs.Gcd.{gcd}
use Rattle.fraction128.proofs.number.Frac.one.Goals as goal

pub invariant_of-result : goal.invariant_of-result
unfolding gcd
invariant_of-result c = record { positive = omega (arith, ints); lowest = tt; num_small = omega arith; den_small = omega arith }
