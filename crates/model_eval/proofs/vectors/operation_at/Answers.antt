use Rattle.model_eval.proofs.Words.{is_word_at, word_fits}
use Rattle.model_eval.proofs.vectors.operation_at.Goals as goal

pub word_at-requires : goal.word_at-requires
word_at-requires c = is_word_at c.args.known.now.entries c.args.op c.args.i c.args.j c.args.t c.requires

pub apply_at-requires : goal.apply_at-requires
apply_at-requires c = word_fits c.args.known.now.entries c.args.op c.args.i c.args.j c.args.t c.word_at.result c.requires c.word_at.ensures
