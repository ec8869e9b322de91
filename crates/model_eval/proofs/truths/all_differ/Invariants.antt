use Rattle.std.proofs.Common.{◌≡◌, drop, map}
use Rattle.y_tree.specs.Meaning.{are_distinct}
use Rattle.y_tree.specs.Plain.{plain_sort}
use Rattle.model_eval.specs.Known.{found}
use Rattle.model_eval.proofs.truths.all_differ.Given as goal

abbrev pub invariant-loop-i : goal.invariant-loop-i
invariant-loop-i l = are_distinct (plain_sort l.of) (map (found l.known.entries) (drop l.i l.terms)) ≡ are_distinct (plain_sort l.of) (map (found l.known.entries) l.terms)
