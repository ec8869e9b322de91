use Rattle.term_build.proofs.Once.{answers_again, again_in_building}
use Rattle.term_build.proofs.laws.one_answer.Goals as goal

pub returns-clause-again : goal.returns-clause-again
returns-clause-again c = answers_again c.sorts_are_decided.ensures c.sketches_are_small.ensures.made

pub returns-clause-in_building : goal.returns-clause-in_building
returns-clause-in_building c = again_in_building c.sorts_are_decided.ensures c.sketches_are_small.ensures.made
