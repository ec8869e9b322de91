use Rattle.model_eval.proofs.Lists.{none_first, first_in}
use Rattle.model_eval.proofs.truths.distinctness.Goals as goal

pub distinct_from-requires-clause-first : goal.distinct_from-requires-clause-first
distinct_from-requires-clause-first c = first_in c.args.terms.now _ c.in-Some.ensures.lookup.0 c.in-Some.ensures.lookup.1

pub returns-in-None : goal.returns-in-None
returns-in-None c = λ k has. none_first _ c.args.terms.now k c.in-None.ensures.lookup.0
