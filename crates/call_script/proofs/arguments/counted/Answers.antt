use Rattle.std.proofs.Common.{◌∙◌, ap, sym}
use Rattle.yices_grammar.specs.Words.{is_digit, are_some}
use Rattle.call_script.proofs.Numerals.{past_counted}
use Rattle.call_script.proofs.arguments.counted.Goals as goal

pub returns-in-Err : goal.returns-in-Err
returns-in-Err c =
    sym (past_counted c.args.digits.now c.in-Err.field-0 c.in-Err.ensures.value.0 (ap (are_some is_digit) (sym c.as_bytes.ensures.value) ∙ sym c.if-not-are_digits.ensures))
