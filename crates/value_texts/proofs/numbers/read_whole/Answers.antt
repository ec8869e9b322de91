use Rattle.value_texts.proofs.Wholes.{digits_more, size_more, no_digit}
use Rattle.value_texts.proofs.numbers.read_whole.Goals as goal

pub returns-in_err-size : goal.returns-in_err-size
returns-in_err-size c = rw c.from_residual.ensures (no_digit c.args.text.now c.loop-i.i c.loop-i-test.true c.in_err-size.ensures)

pub loop-i-preserved : goal.loop-i-preserved
loop-i-preserved c = record {
  digits = digits_more c.args.text.now c.loop-i.i c.loop-i-test.true c.loop-i.invariant.digits c.in_ok-size.ensures.0;
  size = size_more c.args.text.now c.loop-i.i c.loop-i.size c.in_ok-size.size c.loop-i-test.true c.loop-i.invariant.size c.in_ok-size.ensures.1;
}
