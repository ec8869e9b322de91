use Rattle.std.proofs.Common.{◌||◌, sym, subst, drop}
use Rattle.std.proofs.lemmas.Result.{err_from_is_err_and}
use Rattle.y_tree.specs.Plain.{plain_sort, plain_sorts, plain_value}
use Rattle.value_texts.proofs.Splitting.{to_end}
use Rattle.value_texts.proofs.EntryTexts.{EntriesSoFar, entries_more, entries_stop, entries_done}
use Rattle.value_texts.proofs.FunctionTexts.{fails_of}
use Rattle.value_texts.proofs.read.read_rest.Goals as goal

pub returns-in_err-line : goal.returns-in_err-line
returns-in_err-line c =
    let p = err_from_is_err_and c.from_residual.result c.from_residual.ensures.1 in
    rw (p.1, p.2)
    (fails_of c.in_err-line.field-0.0
    (entries_stop (plain_sorts c.args.domain.now) (plain_sort c.args.range.now) c.args.text.now c.loop-inner.rest.now c.in-Some.inner.now c.loop-inner.entries.items c.loop-inner.wide_key c.loop-inner.wide c.loop-inner.invariant c.in-Some.ensures)
    c.in_err-line.ensures)

pub loop-inner-preserved : goal.loop-inner-preserved
loop-inner-preserved c =
    let domain = plain_sorts c.args.domain.now in
    let range = plain_sort c.args.range.now in
    let line = c.in_ok-line.line in
    subst (λ x. EntriesSoFar domain range c.args.text.now x c.push.new.self.items (c.loop-inner.wide_key || line.wide_key) (c.loop-inner.wide || line.wide)) (sym (to_end line.end c.in-Some.inner.now))
    (subst (λ es. EntriesSoFar domain range c.args.text.now (drop line.end c.in-Some.inner.now) es (c.loop-inner.wide_key || line.wide_key) (c.loop-inner.wide || line.wide)) (sym c.in_ok-push.ensures.items)
    (entries_more domain range c.args.text.now c.loop-inner.rest.now c.in-Some.inner.now (drop line.end c.in-Some.inner.now) c.loop-inner.entries.items line.entry c.loop-inner.wide_key c.loop-inner.wide line.wide_key line.wide
    c.loop-inner.invariant c.in-Some.ensures c.in_ok-line.ensures.1))

pub returns-in_default-read_default : goal.returns-in_default-read_default
returns-in_default-read_default c = c.loop-inner.invariant.bad (c.in_default-read_default.ensures c.in_default.ensures (plain_sorts c.args.domain.now))

pub returns : goal.returns
returns c =
    entries_done (plain_sorts c.args.domain.now) (plain_sort c.args.range.now) c.args.text.now c.loop-inner.rest.now c.loop-inner.entries.items c.loop-inner.wide_key c.loop-inner.wide (plain_value c.in-Some-read_default.word.value) c.in-Some-read_default.word.wide
    c.loop-inner.invariant (c.in-Some-read_default.ensures c.in_default.ensures (plain_sorts c.args.domain.now))
