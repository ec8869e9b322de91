use Rattle.simplex_core.proofs.ConcreteLemmas.{apart_not_zero}
use Rattle.simplex_core.proofs.concrete.largest_step.Goals as goal

pub div-requires : goal.div-requires
div-requires c = apart_not_zero c.args.low.now.inf c.args.high.now.inf c.in-Ok-minus.below c.if-not-is_less.ensures.yes c.in-Ok-minus.ensures.ok
