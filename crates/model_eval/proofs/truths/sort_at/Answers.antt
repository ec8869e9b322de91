use Rattle.std.proofs.Common.{subst}
use Rattle.y_tree.specs.Plain.{plain_sort}
use Rattle.term_table.specs.Functions.{StandsFor}
use Rattle.model_eval.proofs.Sorting.{sort_is, no_dead_sort}
use Rattle.model_eval.proofs.truths.sort_at.Goals as goal

pub unreachable-requires-in-None : goal.unreachable-requires-in-None
unreachable-requires-in-None c =
    no_dead_sort c.args.table.now c.args.t c.in-Some.of c.in-Some.ensures (subst (StandsFor c.args.table.now c.in-Some.of) c.in-None.is c.in_ok-sort.ensures) c.requires.0 c.requires.1

pub returns : goal.returns
returns c = sort_is c.args.table.now c.args.t c.in-Some.of (plain_sort c.in-Some-2.sort) c.in-Some.ensures (subst (StandsFor c.args.table.now c.in-Some.of) c.in-Some-2.is c.in_ok-sort.ensures)
