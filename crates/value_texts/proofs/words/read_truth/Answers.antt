use Rattle.value_texts.proofs.WordForms.{read_true, read_false, read_neither}
use Rattle.value_texts.proofs.words.read_truth.Goals as goal

pub returns-then-eq : goal.returns-then-eq
returns-then-eq c = read_true c.args.text.now c.as_slice.result.now c.eq.result c.as_slice.ensures c.eq.ensures c.if-eq.true

pub returns-then-eq-2 : goal.returns-then-eq-2
returns-then-eq-2 c = read_false c.args.text.now c.as_slice-else-eq.result.now c.eq-else-eq.result c.as_slice-else-eq.ensures c.eq-else-eq.ensures c.if-eq-2.true

pub returns-else-eq-2 : goal.returns-else-eq-2
returns-else-eq-2 c =
    read_neither c.args.text.now c.as_slice.result.now c.as_slice-else-eq.result.now c.eq.result c.eq-else-eq.result c.as_slice.ensures c.as_slice-else-eq.ensures c.eq.ensures c.eq-else-eq.ensures c.if-eq.false c.if-eq-2.false
