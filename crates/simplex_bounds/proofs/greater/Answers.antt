use Rattle.simplex_bounds.proofs.RangeLemmas.{above_new, above_old}
use Rattle.simplex_bounds.proofs.greater.Goals as goal

pub returns-then-is_below-clause-above : goal.returns-then-is_below-clause-above
returns-then-is_below-clause-above c = above_new c.args.old c.in-Some.held c.args.bound c.in-Some.is c.if-is_below.ensures.yes

pub returns-else-is_below-clause-above : goal.returns-else-is_below-clause-above
returns-else-is_below-clause-above c = above_old c.args.old c.in-Some.held c.args.bound c.in-Some.is c.if-is_below.ensures.no
