use Rattle.value_texts.proofs.Fractions.{signed_parts, unsigned_parts}
use Rattle.value_texts.proofs.numbers.read_parts.Goals as goal

pub returns-in-Some : goal.returns-in-Some
returns-in-Some c = signed_parts c.args.text.now c.in-Some.digits.now c.read_unsigned.result c.in-Some.ensures c.read_unsigned.ensures

pub returns-in-None : goal.returns-in-None
returns-in-None c = unsigned_parts c.args.text.now c.read_unsigned-in-None.result c.in-None.ensures c.read_unsigned-in-None.ensures
