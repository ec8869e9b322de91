use Rattle.std.proofs.Common.{◌≡◌, take, map}
use Rattle.y_tree.specs.Meaning.{truth_of, is_odd}
use Rattle.model_eval.specs.Known.{found}
use Rattle.model_eval.proofs.truths.odd_true.Given as goal

abbrev pub invariant-loop-term : goal.invariant-loop-term
invariant-loop-term l = l.odd ≡ is_odd (map truth_of (map (found l.known.entries) (take l.term-index l.terms)))
