use Rattle.value_texts.proofs.Splitting.{after_is}
use Rattle.value_texts.proofs.numbers.after.Goals as goal

pub returns : goal.returns
returns c = after_is c.args.text.now c.args.front.now c.strip_prefix.result c.strip_prefix.ensures.cases
