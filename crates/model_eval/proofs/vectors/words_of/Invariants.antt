use Rattle.std.proofs.Common.{◌≡◌, take, map}
use Rattle.y_tree.specs.Meaning.{bits_of}
use Rattle.bit_arithmetic.specs.Plain.{pair}
use Rattle.model_eval.specs.Known.{found}
use Rattle.model_eval.proofs.vectors.words_of.Given as goal

abbrev pub invariant-loop-term : goal.invariant-loop-term
invariant-loop-term l = map pair l.words.items ≡ map bits_of (map (found l.known.entries) (take l.term-index l.terms))
