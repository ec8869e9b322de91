use Rattle.std.proofs.Common.{arith}
use Rattle.value_texts.proofs.WordForms.{no_at_digits, no_at_large, at_number, size_large, size_past}
use Rattle.value_texts.proofs.words.read_element.Goals as goal

pub returns-in_err-number : goal.returns-in_err-number
returns-in_err-number c = rw c.from_residual-in_err-number.ensures (no_at_digits c.args.text.now c.in_ok-after.field-0.now c.in_ok-after.ensures c.in_err-number.ensures)

pub returns-in-Small : goal.returns-in-Small
returns-in-Small c =
    (at_number c.args.text.now c.in_ok-after.field-0.now c.in_ok-number.field-0 c.in-Small.number c.in_ok-after.ensures c.in_ok-number.ensures c.in-Small.is, omega (arith, c.if-number-from.true, c.from.ensures))

pub returns-in_default : goal.returns-in_default
returns-in_default c =
    no_at_large c.args.text.now c.in_ok-after.field-0.now c.in_ok-number.field-0 c.in_ok-after.ensures c.in_ok-number.ensures
    (size_large c.in_ok-number.field-0 c.in-Small.number c.in-Small.is (omega (arith, c.if-number-from.false, c.from.ensures)))

pub returns-in_default-2 : goal.returns-in_default-2
returns-in_default-2 c =
    no_at_large c.args.text.now c.in_ok-after.field-0.now c.in_ok-number.field-0 c.in_ok-after.ensures c.in_ok-number.ensures (size_past c.in_ok-number.field-0 c.in_default.is)
