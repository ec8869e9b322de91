use Rattle.value_texts.proofs.TextLists.{high_bit}
use Rattle.value_texts.proofs.write.bit_at.Goals as goal

pub returns-in-None : goal.returns-in-None
returns-in-None c = high_bit c.args.bits c.args.place c.ranges.bits.fits c.in-None.ensures
