use Rattle.std.proofs.Common.{subst}
use Rattle.yices_parser.specs.Steps.{Leaves}
use Rattle.yices_parser.proofs.Typing.{attaches_whole, attaches_part}
use Rattle.yices_parser.proofs.types.attach_type.Goals as goal

pub returns-in_default : goal.returns-in_default
returns-in_default c = λ p. subst (λ m. Leaves p m c.end_type.result) (attaches_whole p c.args.around c.args.of c.in_default.ensures.0) (c.end_type.ensures p)

pub returns : goal.returns
returns c = λ p.
    subst (λ m. Leaves p m c.open_arrow.result)
    (attaches_part p c.args.around c.pop.new.self c.in-Some.field-0.place c.in-Some.field-0.types c.push.new.self c.args.of c.in-Some.ensures c.in_ok-push.ensures.ok) (c.open_arrow.ensures p)
