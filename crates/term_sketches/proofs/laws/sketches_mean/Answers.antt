use Rattle.term_sketches.proofs.Means as means
use Rattle.term_sketches.proofs.laws.sketches_mean.Goals as goal

pub returns : goal.returns
returns c = means.sketches_mean c.sorts_are_decided.ensures c.sameness.ensures.equivalence
