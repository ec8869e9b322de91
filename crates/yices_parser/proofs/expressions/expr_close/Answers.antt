use Rattle.std.proofs.Common.{sym, subst}
use Rattle.yices_parser.specs.Steps.{Takes}
use Rattle.yices_parser.proofs.Closing.{innermost}
use Rattle.yices_parser.proofs.expressions.expr_close.Goals as goal

pub returns : goal.returns
returns c = λ p t.
    subst (λ o. Takes p o c.close_form.result)
    (sym (innermost p c.args.around c.pop.new.self c.in-Some.field-0.place c.in-Some.field-0.form t c.in-Some.ensures)) (c.close_form.ensures p t)
