use Rattle.std.proofs.Common.{◌≡◌, ◌∙◌, ◌+◌, [], true, false, length, map, sym, ap, subst, arith}
use Rattle.std.proofs.lemmas.Result.{err_from_is_err_and}
use Rattle.call_script.specs.Lines.{start, part}
use Rattle.call_script.specs.Results.{Tells, ErrorTells, written}
use Rattle.call_script.specs.Judging.{said_from, with_word}
use Rattle.call_script.specs.Scanned.{plain_tail, plain_token}
use Rattle.call_script.proofs.Going.{said_tail, said_more, said_refused}
use Rattle.call_script.proofs.reading.read_tokens.Goals as goal

pub returns-in-Tail : goal.returns-in-Tail
returns-in-Tail c =
    subst (Tells c.behind_nothing.result)
    (sym (said_tail c.args.end true 1 c.args.line.now (length c.args.line.now + 1) start (plain_tail c.in-Tail.tail) c.in-Tail.ensures.found))
    (c.behind_nothing.ensures (length c.args.line.now + 1))

pub returns-in_err-word-in-Token : goal.returns-in_err-word-in-Token
returns-in_err-word-in-Token c =
    let p = err_from_is_err_and c.from_residual.result c.from_residual.ensures.1 in
    rw (p.1, p.2) (subst (ErrorTells c.in_err-word-in-Token.field-0.0)
    (sym (said_refused c.args.end true 1 c.args.line.now (length c.args.line.now + 1) start (plain_token c.in-Token.token) c.in-Token.rest.now c.in-Token.ensures.found
    (ap (with_word c.in-Token.token.column) c.in_err-word-in-Token.ensures.0)))
    c.in_err-word-in-Token.ensures.1)

pub returns-in_ok-word-in-Token : goal.returns-in_ok-word-in-Token
returns-in_ok-word-in-Token c =
    let found = said_more c.args.end true 1 c.args.line.now (length c.args.line.now + 1) start (part c.in-Token.token.column c.in_ok-word-in-Token.word []) (plain_token c.in-Token.token) c.in-Token.rest.now c.in-Token.ensures.found
    (ap (with_word c.in-Token.token.column) c.in_ok-word-in-Token.ensures) in
    let last : c.column_behind.result + length c.in-Token.rest.now ≡ length c.args.line.now + 1 = omega (arith, c.column_behind.ensures, c.in-Token.ensures.within.0) in
    subst (Tells c.read_arguments.result)
    (ap (λ k. said_from c.args.end k (part c.in-Token.token.column c.in_ok-word-in-Token.word (map written c.new.result.items)) false c.column_behind.result c.in-Token.rest.now) last
    ∙ ap (λ items. said_from c.args.end (length c.args.line.now + 1) (part c.in-Token.token.column c.in_ok-word-in-Token.word (map written items)) false c.column_behind.result c.in-Token.rest.now) c.new.ensures.items
    ∙ ap (λ k. said_from c.args.end (length c.args.line.now + 1) (part c.in-Token.token.column c.in_ok-word-in-Token.word []) false k c.in-Token.rest.now) c.column_behind.ensures
    ∙ sym found)
    c.read_arguments.ensures
