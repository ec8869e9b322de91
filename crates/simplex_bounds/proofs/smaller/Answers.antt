use Rattle.simplex_bounds.proofs.RangeLemmas.{under_new, under_old}
use Rattle.simplex_bounds.proofs.smaller.Goals as goal

pub returns-then-is_below-clause-below : goal.returns-then-is_below-clause-below
returns-then-is_below-clause-below c = under_new c.args.old c.in-Some.held c.args.bound c.in-Some.is c.if-is_below.ensures.yes

pub returns-else-is_below-clause-below : goal.returns-else-is_below-clause-below
returns-else-is_below-clause-below c = under_old c.args.old c.in-Some.held c.args.bound c.in-Some.is c.if-is_below.ensures.no
