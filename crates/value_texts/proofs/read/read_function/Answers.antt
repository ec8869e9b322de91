use Rattle.std.proofs.Common.{◌∙◌, sym, ap}
use Rattle.std.proofs.lemmas.Result.{err_from_is_err_and}
use Rattle.y_tree.specs.Sorts.{function}
use Rattle.y_tree.specs.Order.{is_rising}
use Rattle.y_tree.specs.Plain.{plain_sort, plain_sorts, plain_value, plain_entries, plain_function}
use Rattle.value_texts.proofs.FunctionTexts.{no_function_front, no_function_rest, no_function_order, function_past, function_read, function_within, refuses_of}
use Rattle.value_texts.proofs.read.read_function.Goals as goal
use Rattle.value_texts.proofs.read.read_function.Goals.{else-not-read-via-then-not-read+else-not-is_rising, else-not-read-via-else-not-read}

pub returns-in_default-clause-value : goal.returns-in_default-clause-value
returns-in_default-clause-value c = no_function_front (plain_sorts c.args.domain.now) (plain_sort c.args.range.now) c.args.text.now c.in_default.ensures

pub returns-then-not-is_rising-clause-value : goal.returns-then-not-is_rising-clause-value
returns-then-not-is_rising-clause-value c =
    no_function_order (plain_sorts c.args.domain.now) (plain_sort c.args.range.now) c.args.text.now c.in-Some.rest.now (plain_entries c.in_ok-read.read.entries.items) (plain_value c.in_ok-read.read.default_value) c.in_ok-read.read.wide_key
    c.in_ok-read.read.wide c.in-Some.ensures c.in_ok-read.ensures c.if-not-read.true (sym (c.is_rising.ensures ∙ ap (λ x. is_rising (plain_entries x)) c.as_slice.ensures.value) ∙ c.if-not-is_rising.true)

pub returns-then-read-clause-value : goal.returns-then-read-clause-value
returns-then-read-clause-value c =
    function_past (plain_sorts c.args.domain.now) (plain_sort c.args.range.now) c.args.text.now c.in-Some.rest.now (plain_entries c.in_ok-read.read.entries.items) (plain_value c.in_ok-read.read.default_value) c.in_ok-read.read.wide_key
    c.in_ok-read.read.wide c.in-Some.ensures c.in_ok-read.ensures c.if-read.true
    (λ narrow. elim c.else-not-read.branch [ else-not-read-via-then-not-read+else-not-is_rising w ↦ sym (w.is_rising.ensures ∙ ap (λ x. is_rising (plain_entries x)) w.as_slice.ensures.value) ∙ w.if-not-is_rising.false | else-not-read-via-else-not-read w ↦ absurd (cc (sym narrow ∙ w.if-not-read.false)) ])

pub returns-clause-value : goal.returns-clause-value
returns-clause-value c =
    function_read (plain_sorts c.args.domain.now) (plain_sort c.args.range.now) c.args.text.now c.in-Some.rest.now (plain_function c.in_ok-from_entries.field-0) (plain_entries c.in_ok-read.read.entries.items)
    (plain_value c.in_ok-read.read.default_value) c.in_ok-read.read.wide_key c.in_ok-read.read.wide c.in-Some.ensures c.in_ok-read.ensures c.if-read.false
    (λ narrow. elim c.else-not-read.branch [ else-not-read-via-then-not-read+else-not-is_rising w ↦ sym (w.is_rising.ensures ∙ ap (λ x. is_rising (plain_entries x)) w.as_slice.ensures.value) ∙ w.if-not-is_rising.false | else-not-read-via-else-not-read w ↦ absurd (cc (sym narrow ∙ w.if-not-read.false)) ])
    c.in_ok-from_entries.ensures

pub returns-in_err-read-clause-value : goal.returns-in_err-read-clause-value
returns-in_err-read-clause-value c =
    let p = err_from_is_err_and c.from_residual.result c.from_residual.ensures.1 in
    rw (p.1, p.2)
    (refuses_of (function (plain_sorts c.args.domain.now) (plain_sort c.args.range.now)) c.args.text.now c.in_err-read.field-0.0
    (no_function_rest (plain_sorts c.args.domain.now) (plain_sort c.args.range.now) c.args.text.now c.in-Some.rest.now c.in-Some.ensures) c.in_err-read.ensures)

pub returns-clause-within : goal.returns-clause-within
returns-clause-within c =
    function_within (plain_sorts c.args.domain.now) (plain_sort c.args.range.now) c.args.text.now c.in-Some.rest.now (plain_entries c.in_ok-read.read.entries.items) (plain_value c.in_ok-read.read.default_value) c.in_ok-read.read.wide_key
    c.in_ok-read.read.wide c.in-Some.ensures c.in_ok-read.ensures c.if-read.false
