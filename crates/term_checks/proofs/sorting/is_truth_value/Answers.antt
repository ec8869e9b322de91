use Rattle.std.proofs.Common.{sym}
use Rattle.term_checks.proofs.Sorts.{sort_by}
use Rattle.term_checks.proofs.sorting.is_truth_value.Goals as goal

pub returns : goal.returns
returns c =
    sort_by c.args.table.now c.args.t c.in-Some.of c.is_bool_type.result (sym c.in-Some.ensures) c.is_bool_type.ensures
