use Rattle.std.proofs.Common.{ne_eqb}
use Rattle.value_texts.specs.Pieces.{is_slash}
use Rattle.value_texts.proofs.Splitting.{free_more}
use Rattle.value_texts.proofs.numbers.find_slash.Goals as goal

pub loop-i-preserved : goal.loop-i-preserved
loop-i-preserved c = free_more is_slash c.args.text.now c.loop-i.i c.loop-i-test.true c.loop-i.invariant (ne_eqb _ 47 c.if-text-i-eq47.false)
