use Rattle.model_eval.proofs.Words.{none_word}
use Rattle.model_eval.proofs.vectors.word_at.Goals as goal

pub unreachable-requires : goal.unreachable-requires
unreachable-requires c = none_word c.args.known.now.entries c.args.t c.in-None.ensures c.requires
