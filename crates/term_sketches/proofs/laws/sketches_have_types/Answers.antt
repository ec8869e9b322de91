use Rattle.term_sketches.proofs.Fitting as fitting
use Rattle.term_sketches.proofs.laws.sketches_have_types.Goals as goal

pub returns : goal.returns
returns c = fitting.sketches_have_types c.sorts_are_decided.ensures
