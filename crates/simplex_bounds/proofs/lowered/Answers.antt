use Rattle.std.proofs.Common.{refl}
use Rattle.simplex_bounds.specs.Ranges.{to_up}
use Rattle.simplex_bounds.proofs.lowered.Goals as goal

pub returns-then-is_below-clause-stands : goal.returns-then-is_below-clause-stands
returns-then-is_below-clause-stands c = to_up c.in-Some.bound c.in-Some.is refl c.if-is_below.ensures.yes
