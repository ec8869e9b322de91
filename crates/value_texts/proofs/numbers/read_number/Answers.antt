use Rattle.std.proofs.Common.{inl, inr}
use Rattle.value_texts.proofs.Fractions.{no_number, no_lowest, is_lowest_number, is_wide_number, small_parts}
use Rattle.value_texts.proofs.numbers.read_number.Goals as goal

pub returns-in_err-parts : goal.returns-in_err-parts
returns-in_err-parts c = rw c.from_residual.ensures (no_number c.args.text.now c.in_err-parts.ensures)

pub returns-in_err-in_lowest_terms-in-Small-bottom : goal.returns-in_err-in_lowest_terms-in-Small-bottom
returns-in_err-in_lowest_terms-in-Small-bottom c =
    rw c.from_residual-in_err-in_lowest_terms-in-Small-bottom.ensures
    (no_lowest c.in_ok-parts.parts.negative c.in-Small.top c.in-Small-bottom.bottom c.signed-num.result c.signed-den.result c.args.text.now
    (small_parts c.in_ok-parts.parts.negative c.in_ok-parts.parts.top c.in_ok-parts.parts.bottom c.in-Small.top c.in-Small-bottom.bottom c.args.text.now c.in_ok-parts.ensures c.in-Small.is c.in-Small-bottom.is)
    c.signed-num.ensures.value c.signed-den.ensures.value c.in_err-in_lowest_terms-in-Small-bottom.ensures)

pub returns-in_ok-in_lowest_terms-in-Small-bottom : goal.returns-in_ok-in_lowest_terms-in-Small-bottom
returns-in_ok-in_lowest_terms-in-Small-bottom c =
    is_lowest_number c.in_ok-parts.parts.negative c.in-Small.top c.in-Small-bottom.bottom c.signed-num.result c.signed-den.result c.args.text.now c.in_ok-in_lowest_terms-in-Small-bottom.field-0
    (small_parts c.in_ok-parts.parts.negative c.in_ok-parts.parts.top c.in_ok-parts.parts.bottom c.in-Small.top c.in-Small-bottom.bottom c.args.text.now c.in_ok-parts.ensures c.in-Small.is c.in-Small-bottom.is)
    c.signed-num.ensures.value c.signed-den.ensures.value c.in_ok-in_lowest_terms-in-Small-bottom.ensures.0 c.in_ok-in_lowest_terms-in-Small-bottom.ensures.1

pub returns-in-Past : goal.returns-in-Past
returns-in-Past c = is_wide_number c.in_ok-parts.parts.negative c.in_ok-parts.parts.top c.in_ok-parts.parts.bottom c.args.text.now c.in_ok-parts.ensures (inl c.in-Past.is)

pub returns-in-Past-bottom : goal.returns-in-Past-bottom
returns-in-Past-bottom c = is_wide_number c.in_ok-parts.parts.negative c.in_ok-parts.parts.top c.in_ok-parts.parts.bottom c.args.text.now c.in_ok-parts.ensures (inr c.in-Past-bottom.is)
