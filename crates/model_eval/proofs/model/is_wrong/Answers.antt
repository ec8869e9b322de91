use Rattle.std.proofs.Common.{sym, subst}
use Rattle.y_tree.specs.Plain.{plain_sort}
use Rattle.term_table.specs.Functions.{StandsFor}
use Rattle.model_eval.specs.Models.{plain_item}
use Rattle.model_eval.proofs.Entries.{wrong_told, wrong_dead}
use Rattle.model_eval.proofs.model.is_wrong.Goals as goal

pub returns-in-Some-2 : goal.returns-in-Some-2
returns-in-Some-2 c =
    wrong_told c.args.table.now (plain_item c.args.item.now) c.in-Some.of (plain_sort c.in-Some-2.sort) c.has_sort.result (sym c.in-Some.ensures) (subst (StandsFor c.args.table.now c.in-Some.of) c.in-Some-2.is c.in_ok-sort.ensures) c.has_sort.ensures

pub returns-in-None : goal.returns-in-None
returns-in-None c =
    wrong_dead c.args.table.now (plain_item c.args.item.now) c.in-Some.of (sym c.in-Some.ensures) (subst (StandsFor c.args.table.now c.in-Some.of) c.in-None.is c.in_ok-sort.ensures)
