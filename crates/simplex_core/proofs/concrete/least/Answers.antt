use Rattle.std.proofs.Common.{refl}
use Rattle.simplex_core.specs.Concrete.{is_other, is_step}
use Rattle.simplex_core.proofs.ConcreteLemmas.{le_of_lt}
use Rattle.simplex_core.proofs.concrete.least.Goals as goal

pub returns-then-is_less : goal.returns-then-is_less
returns-then-is_less c = is_other c.in-Some.limit c.in-Some.is (le_of_lt c.in-Some.limit c.args.step c.if-is_less.ensures.yes) refl

pub returns-else-is_less : goal.returns-else-is_less
returns-else-is_less c = is_step c.in-Some.limit c.in-Some.is c.if-is_less.ensures.no refl
