use Rattle.std.proofs.Common.{subst}
use Rattle.y_tree.specs.Plain.{plain_sort}
use Rattle.term_table.specs.Functions.{StandsFor}
use Rattle.model_eval.proofs.Zeros.{zero_ok, zero_dead}
use Rattle.model_eval.proofs.shapes.zero_at.Goals as goal

pub returns-in-Some : goal.returns-in-Some
returns-in-Some c =
    zero_ok c.args.table.now c.args.of (plain_sort c.in-Some.sort) c.zero_of.result (subst (StandsFor c.args.table.now c.args.of) c.in-Some.is c.in_ok-sort.ensures) c.zero_of.ensures

pub returns-in-None : goal.returns-in-None
returns-in-None c =
    zero_dead c.args.table.now c.args.of _ (subst (StandsFor c.args.table.now c.args.of) c.in-None.is c.in_ok-sort.ensures)
