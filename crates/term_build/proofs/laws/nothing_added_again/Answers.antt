use Rattle.term_build.proofs.Repeating.{adds_nothing, nothing_where_live, nothing_in_building}
use Rattle.term_build.proofs.laws.nothing_added_again.Goals as goal

pub returns-clause-again : goal.returns-clause-again
returns-clause-again c = adds_nothing c.sorts_are_decided.ensures c.sketches_are_small.ensures.made

pub returns-clause-live : goal.returns-clause-live
returns-clause-live c = nothing_where_live c.sorts_are_decided.ensures c.sketches_are_small.ensures.made

pub returns-clause-in_building : goal.returns-clause-in_building
returns-clause-in_building c = nothing_in_building c.sorts_are_decided.ensures c.sketches_are_small.ensures.made
