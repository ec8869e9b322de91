use Rattle.std.proofs.Common.{◌∙◌, sym, subst}
use Rattle.value_texts.specs.Pieces.{NoBottom}
use Rattle.value_texts.proofs.Splitting.{to_end}
use Rattle.value_texts.proofs.Fractions.{no_top, no_rest, no_minus_zero}
use Rattle.value_texts.proofs.numbers.read_unsigned.Goals as goal

pub returns-in_err-top : goal.returns-in_err-top
returns-in_err-top c = rw c.from_residual.ensures (no_top c.args.text.now c.find_slash-end.result c.args.negative c.find_slash-end.ensures c.in_err-top.ensures)

pub returns-in_err-bottom : goal.returns-in_err-bottom
returns-in_err-bottom c = rw c.from_residual-in_err-bottom.ensures (no_rest c.args.text.now c.find_slash-end.result c.args.negative c.find_slash-end.ensures (subst NoBottom (to_end c.find_slash-end.result c.args.text.now) c.in_err-bottom.ensures))

pub returns-then-is_zero : goal.returns-then-is_zero
returns-then-is_zero c =
    no_minus_zero c.args.text.now c.find_slash-end.result c.args.negative c.in_ok-top.top c.find_slash-end.ensures c.in_ok-top.ensures c.if-negative.true (sym c.is_zero.ensures ∙ c.if-is_zero.true)
