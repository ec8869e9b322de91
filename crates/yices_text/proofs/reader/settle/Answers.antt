use Rattle.std.proofs.Common.{◌∙◌, sym, subst}
use Rattle.yices_text.specs.Progress.{Stops}
use Rattle.yices_text.proofs.Holding.{no_failure, works_at}
use Rattle.yices_text.proofs.reader.settle.Goals as goal

pub returns-in-Ok-clause-whole : goal.returns-in-Ok-clause-whole
returns-in-Ok-clause-whole c = λ done none nothing fed answered w.
    (c.in-Ok.ensures.ends fed answered (works_at c.args.finished fed answered c.args.scanner.now c.args.fault (no_failure c.args.fault (sym c.is_some.ensures ∙ c.if-is_some.false)) done w)).1

pub returns-in-Err-clause-works : goal.returns-in-Err-clause-works
returns-in-Err-clause-works c = λ fed answered w.
    subst (λ b. Stops b fed answered c.end.new.self c.in-Err.error) (sym c.if-not-finished.false)
    (c.in-Err.ensures.ends fed answered (works_at c.args.finished fed answered c.args.scanner.now c.args.fault (no_failure c.args.fault (sym c.is_some.ensures ∙ c.if-is_some.false)) c.if-not-finished.false w))
