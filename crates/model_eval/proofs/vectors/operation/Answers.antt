use Rattle.std.proofs.Common.{◌∙◌, map, ap}
use Rattle.bit_arithmetic.specs.Plain.{pair}
use Rattle.model_eval.proofs.Words.{are_words, words_fit}
use Rattle.model_eval.proofs.vectors.operation.Goals as goal

pub words_of-requires : goal.words_of-requires
words_of-requires c = are_words c.args.known.now.entries c.args.op c.args.terms.now c.requires

pub apply-requires : goal.apply-requires
apply-requires c = words_fit c.args.known.now.entries c.args.op c.args.terms.now c.as_slice.result.now c.requires (ap (map pair) c.as_slice.ensures.value ∙ c.in_ok-words.ensures)
