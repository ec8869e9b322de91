use Rattle.std.proofs.Common.{refl}
use Rattle.simplex_bounds.specs.Ranges.{from_low}
use Rattle.simplex_bounds.proofs.raised.Goals as goal

pub returns-then-is_below-clause-stands : goal.returns-then-is_below-clause-stands
returns-then-is_below-clause-stands c = from_low c.in-Some.bound c.in-Some.is refl
