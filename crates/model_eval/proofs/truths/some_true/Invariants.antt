use Rattle.std.proofs.Common.{◌≡◌, drop, map}
use Rattle.std.specs.List.{list_any}
use Rattle.y_tree.specs.Meaning.{truth_of}
use Rattle.model_eval.specs.Known.{found}
use Rattle.model_eval.proofs.truths.some_true.Given as goal

abbrev pub invariant-loop-term : goal.invariant-loop-term
invariant-loop-term l = list_any truth_of (map (found l.known.entries) (drop l.term-index l.terms)) ≡ list_any truth_of (map (found l.known.entries) l.terms)
