use Rattle.y_tree.specs.Plain.{plain_sort}
use Rattle.value_texts.proofs.WordForms.{no_front}
use Rattle.value_texts.proofs.read.read_front.Goals as goal

pub returns-in_err-word : goal.returns-in_err-word
returns-in_err-word c = rw c.from_residual.ensures (no_front (plain_sort c.args.of.now) c.args.text.now c.word_end-end.result c.word_end-end.ensures c.in_err-word.ensures)
