use Rattle.std.proofs.Common.{ne_eqb, refl}
use Rattle.value_texts.specs.Pieces.{is_mark}
use Rattle.value_texts.proofs.Splitting.{free_more}
use Rattle.value_texts.proofs.words.word_end.Goals as goal

pub loop-i-preserved : goal.loop-i-preserved
loop-i-preserved c =
    free_more is_mark c.args.text.now c.loop-i.i c.loop-i-test.true c.loop-i.invariant
    (rw (ne_eqb _ 32 c.if-text-i-eq32.false, ne_eqb _ 40 c.if-text-i-eq40.false, ne_eqb _ 41 c.if-text-i-eq41.false) refl)
