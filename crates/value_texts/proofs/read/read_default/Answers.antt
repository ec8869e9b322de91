use Rattle.std.proofs.Common.{◌∙◌, sym, ap, [], ◌∷◌, drop}
use Rattle.y_tree.specs.Plain.{plain_sort, plain_value}
use Rattle.value_texts.proofs.Splitting.{to_end, tails, no_length, some_length}
use Rattle.value_texts.proofs.EntryTexts.{default_is, no_default, no_default_word, no_default_end}
use Rattle.value_texts.proofs.read.read_default.Goals as goal

pub returns-in_err-rest : goal.returns-in_err-rest
returns-in_err-rest c none domain = rw c.from_residual.ensures (no_default domain (plain_sort c.args.of.now) c.args.text.now none c.in_err-rest.ensures)

pub returns-in_err-front : goal.returns-in_err-front
returns-in_err-front c none domain =
    rw c.from_residual-in_err-front.ensures (no_default_word domain (plain_sort c.args.of.now) c.args.text.now c.in_ok-rest.rest.now none c.in_ok-rest.ensures c.in_err-front.ensures)

pub returns-in_err-rest-2 : goal.returns-in_err-rest-2
returns-in_err-rest-2 c none domain =
    rw c.from_residual-in_err-rest-2.ensures
    (no_default_end domain (plain_sort c.args.of.now) c.args.text.now c.in_ok-rest.rest.now (drop c.in_ok-front.front.end c.in_ok-rest.rest.now) (plain_value c.in_ok-front.front.value) c.in_ok-front.front.wide none c.in_ok-rest.ensures
    c.in_ok-front.ensures.1 (λ e. c.in_err-rest-2.ensures [] (to_end c.in_ok-front.front.end c.in_ok-rest.rest.now ∙ e)))

pub returns-then-not-is_empty : goal.returns-then-not-is_empty
returns-then-not-is_empty c none domain =
    no_default_end domain (plain_sort c.args.of.now) c.args.text.now c.in_ok-rest.rest.now (drop c.in_ok-front.front.end c.in_ok-rest.rest.now) (plain_value c.in_ok-front.front.value) c.in_ok-front.front.wide none c.in_ok-rest.ensures
    c.in_ok-front.ensures.1 (λ e. some_length c.in_ok-rest-2.rest.now c.is_empty.result c.is_empty.ensures c.if-not-is_empty.true
    (tails 41 41 c.in_ok-rest-2.rest.now [] (sym c.in_ok-rest-2.ensures ∙ to_end c.in_ok-front.front.end c.in_ok-rest.rest.now ∙ e)))

pub returns : goal.returns
returns c none domain =
    default_is domain (plain_sort c.args.of.now) c.args.text.now c.in_ok-rest.rest.now (drop c.in_ok-front.front.end c.in_ok-rest.rest.now) (plain_value c.in_ok-front.front.value) c.in_ok-front.front.wide none c.in_ok-rest.ensures
    c.in_ok-front.ensures.1 (sym (to_end c.in_ok-front.front.end c.in_ok-rest.rest.now) ∙ c.in_ok-rest-2.ensures ∙ ap (λ x. 41 ∷ x) (no_length c.in_ok-rest-2.rest.now c.is_empty.result c.is_empty.ensures c.if-not-is_empty.false))
