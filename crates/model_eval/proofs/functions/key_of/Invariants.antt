use Rattle.std.proofs.Common.{◌≡◌, take, map}
use Rattle.y_tree.specs.Plain.{plain_value}
use Rattle.model_eval.specs.Known.{found}
use Rattle.model_eval.proofs.functions.key_of.Given as goal

abbrev pub invariant-loop-term : goal.invariant-loop-term
invariant-loop-term l = map plain_value l.key ≡ map (found l.known.entries) (take l.term-index l.terms)
