use Rattle.std.proofs.Common.{sym, subst}
use Rattle.yices_parser.specs.Steps.{Takes}
use Rattle.yices_parser.proofs.Typing.{innermost_arrow}
use Rattle.yices_parser.proofs.types.type_close.Goals as goal

pub returns : goal.returns
returns c = λ p t.
    subst (λ o. Takes p o c.arrow_close.result)
    (sym (innermost_arrow p c.args.around c.pop.new.self c.in-Some.field-0.place c.in-Some.field-0.types t c.in-Some.ensures)) (c.arrow_close.ensures p t)
