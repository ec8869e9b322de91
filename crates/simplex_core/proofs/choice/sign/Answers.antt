use Rattle.std.proofs.Common.{arith}
use Rattle.std.proofs.lemmas.Int.{ints}
use Rattle.rationals.proofs.OrderQ.{lt_num}
use Rattle.simplex_core.proofs.ChoiceLemmas.{negative_num, zero_num}
use Rattle.simplex_core.proofs.choice.sign.Goals as goal

pub returns-then-number-lt0 : goal.returns-then-number-lt0
returns-then-number-lt0 c = negative_num c.args.by (omega (arith, ints))

pub returns-then-number-gt0 : goal.returns-then-number-gt0
returns-then-number-gt0 c = lt_num c.args.by (omega (arith, ints))

pub returns-else-number-gt0 : goal.returns-else-number-gt0
returns-else-number-gt0 c = zero_num c.args.by (omega (arith, ints)) (omega (arith, ints))
