use Rattle.value_texts.proofs.Digits.{bits_length}
use Rattle.value_texts.proofs.words.read_bits.Goals as goal

pub returns-then-digits-width : goal.returns-then-digits-width
returns-then-digits-width c = bits_length c.args.text.now c.in_ok-digits.digits.now c.args.width c.in_ok-digits.ensures c.if-digits-width.true
