use Rattle.std.proofs.Common.{◌≡◌, length, drop}
use Rattle.y_tree.specs.Values.{have_sorts, have_sort}
use Rattle.y_tree.specs.Plain.{plain_sort, plain_sorts, plain_values, plain_entries}
use Rattle.model_eval.proofs.sorts.+fits.Given as goal

abbrev pub invariant-have_sort-loop-i : goal.invariant-have_sort-loop-i
invariant-have_sort-loop-i l =
    have_sort (plain_entries (drop l.i l.entries)) (plain_sorts l.domain) (plain_sort l.codomain) ≡ have_sort (plain_entries l.entries) (plain_sorts l.domain) (plain_sort l.codomain)

abbrev pub invariant-have_sorts-loop-i : goal.invariant-have_sorts-loop-i
invariant-have_sorts-loop-i l =
    (length l.values ≡ length l.sorts) × (have_sorts (plain_values l.values) (plain_sorts l.sorts) ≡ have_sorts (plain_values (drop l.i l.values)) (plain_sorts (drop l.i l.sorts)))
