use Rattle.std.proofs.Common.{◌≡◌, drop, map}
use Rattle.std.specs.List.{list_any}
use Rattle.y_tree.specs.Values.{same_value}
use Rattle.y_tree.specs.Plain.{plain_sort}
use Rattle.model_eval.specs.Known.{found}
use Rattle.model_eval.proofs.truths.has_same.Given as goal

abbrev pub invariant-loop-other : goal.invariant-loop-other
invariant-loop-other l =
    list_any (same_value (plain_sort l.of) (found l.known.entries l.t)) (map (found l.known.entries) (drop l.other-index l.others))
    ≡ list_any (same_value (plain_sort l.of) (found l.known.entries l.t)) (map (found l.known.entries) l.others)
