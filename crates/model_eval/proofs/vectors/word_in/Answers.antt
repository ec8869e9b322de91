use Rattle.model_eval.proofs.Words.{bits_word, no_bits}
use Rattle.model_eval.proofs.vectors.word_in.Goals as goal

pub word_of-requires : goal.word_of-requires
word_of-requires c = bits_word c.args.value.now c.in-Bv.width c.in-Bv.bits c.in-Bv.is c.requires

pub unreachable-requires : goal.unreachable-requires
unreachable-requires c = no_bits c.args.value.now c.in_default.not-Bv c.requires
