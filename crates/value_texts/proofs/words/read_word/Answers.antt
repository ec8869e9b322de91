use Rattle.std.proofs.Common.{◌∙◌, ap}
use Rattle.y_tree.specs.Sorts.{boolean, bit_vector, uninterpreted}
use Rattle.y_tree.specs.Values.{truth, bits, element}
use Rattle.y_tree.specs.Plain.{plain_sort}
use Rattle.y_tree.proofs.Shapes.{plain_bool, plain_bv, plain_elem, plain_sort_bool, plain_sort_bv, plain_sort_free}
use Rattle.value_texts.proofs.WordForms.{truth_word, bits_word, element_word, no_truth, no_bits, no_element, word_at, no_word_at}
use Rattle.value_texts.proofs.words.read_word.Goals as goal

pub returns-in_err-read_truth-in-Bool : goal.returns-in_err-read_truth-in-Bool
returns-in_err-read_truth-in-Bool c =
    rw c.from_residual.ensures (no_word_at boolean (plain_sort c.args.of.now) c.args.text.now (ap plain_sort c.in-Bool.is ∙ plain_sort_bool) (no_truth c.args.text.now c.in_err-read_truth-in-Bool.ensures))

pub returns-in_err-read_bits-in-Bv : goal.returns-in_err-read_bits-in-Bv
returns-in_err-read_bits-in-Bv c =
    rw c.from_residual-in_err-read_bits-in-Bv.ensures
    (no_word_at (bit_vector c.in-Bv.width) (plain_sort c.args.of.now) c.args.text.now (ap plain_sort c.in-Bv.is ∙ plain_sort_bv c.in-Bv.width) (no_bits c.args.text.now c.in-Bv.width c.in_err-read_bits-in-Bv.ensures))

pub returns-in_err-read_element-in-Free : goal.returns-in_err-read_element-in-Free
returns-in_err-read_element-in-Free c =
    rw c.from_residual-in_err-read_element-in-Free.ensures
    (no_word_at (uninterpreted c.in-Free.kind) (plain_sort c.args.of.now) c.args.text.now (ap plain_sort c.in-Free.is ∙ plain_sort_free c.in-Free.kind) (no_element c.args.text.now c.in-Free.kind c.in_err-read_element-in-Free.ensures))

pub returns-in_ok-read_truth-in-Bool : goal.returns-in_ok-read_truth-in-Bool
returns-in_ok-read_truth-in-Bool c =
    word_at boolean (plain_sort c.args.of.now) (truth c.in_ok-read_truth-in-Bool.field-0) _ c.args.text.now _ (ap plain_sort c.in-Bool.is ∙ plain_sort_bool) (plain_bool c.in_ok-read_truth-in-Bool.field-0)
    (truth_word c.args.text.now c.in_ok-read_truth-in-Bool.field-0 c.in_ok-read_truth-in-Bool.ensures)

pub returns-in_ok-read_bits-in-Bv : goal.returns-in_ok-read_bits-in-Bv
returns-in_ok-read_bits-in-Bv c =
    word_at (bit_vector c.in-Bv.width) (plain_sort c.args.of.now) (bits c.in-Bv.width c.in_ok-read_bits-in-Bv.field-0) _ c.args.text.now _ (ap plain_sort c.in-Bv.is ∙ plain_sort_bv c.in-Bv.width)
    (plain_bv c.in-Bv.width c.in_ok-read_bits-in-Bv.field-0)
    (bits_word c.args.text.now c.in-Bv.width c.in_ok-read_bits-in-Bv.field-0 c.in_ok-read_bits-in-Bv.ensures.1 c.in_ok-read_bits-in-Bv.ensures.0)

pub returns-in_ok-read_element-in-Free : goal.returns-in_ok-read_element-in-Free
returns-in_ok-read_element-in-Free c =
    word_at (uninterpreted c.in-Free.kind) (plain_sort c.args.of.now) (element c.in-Free.kind c.in_ok-read_element-in-Free.field-0) _ c.args.text.now _ (ap plain_sort c.in-Free.is ∙ plain_sort_free c.in-Free.kind)
    (plain_elem c.in-Free.kind c.in_ok-read_element-in-Free.field-0)
    (element_word c.args.text.now c.in-Free.kind c.in_ok-read_element-in-Free.field-0 c.in_ok-read_element-in-Free.ensures.1 c.in_ok-read_element-in-Free.ensures.0)
