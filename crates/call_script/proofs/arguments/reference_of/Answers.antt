use Rattle.std.proofs.Common.{◌∙◌, ap, sym, option_map}
use lib.Utf8.{encode}
use Rattle.call_script.specs.Results.{written}
use Rattle.call_script.proofs.Numerals.{no_sign}
use Rattle.call_script.proofs.arguments.reference_of.Goals as goal

pub returns-in_err-numbers : goal.returns-in_err-numbers
unfolding encode
returns-in_err-numbers c = ap (option_map written) c.from_residual.ensures ∙ sym (no_sign c.args.word.now c.in_err-numbers.ensures.cases)
