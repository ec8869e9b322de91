use Rattle.std.proofs.Common.{◌∙◌, ap}
use Rattle.call_script.specs.Judging.{call_named, named_among}
use Rattle.call_script.proofs.words.call_named.Goals as goal

pub returns : goal.returns
unfolding call_named
returns c = c.call_among.ensures ∙ ap (λ cs. named_among cs c.args.word.now) c.as_slice.ensures
