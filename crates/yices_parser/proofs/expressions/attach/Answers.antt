use Rattle.std.proofs.Common.{subst}
use Rattle.yices_commands.specs.Plain.{plain}
use Rattle.yices_parser.specs.Steps.{Leaves, Fills}
use Rattle.yices_parser.proofs.Opening.{attaches_opened, attaches_due}
use Rattle.yices_commands.specs.declared.state.Filled.{Filled}
use Rattle.yices_parser.proofs.expressions.attach.Goals as goal

pub returns-in-Opened : goal.returns-in-Opened
returns-in-Opened c = λ p.
    subst (λ m. Leaves p m c.open.result)
    (attaches_opened p c.args.around c.pop.new.self c.in-Some.field-0.place c.in-Some.field-0.form c.in-Opened.form c.args.expr c.in-Some.ensures
    (subst (λ (x : Filled). Fills c.in-Some.field-0.form (plain c.args.expr) x) c.in-Opened.is c.in_ok-form.ensures)) (c.open.ensures p)

pub returns-in-Due : goal.returns-in-Due
returns-in-Due c = λ p.
    attaches_due p c.args.around c.pop.new.self c.in-Some.field-0.place c.in-Some.field-0.form c.in-Due.due c.args.expr c.in-Some.ensures
    (subst (λ (x : Filled). Fills c.in-Some.field-0.form (plain c.args.expr) x) c.in-Due.is c.in_ok-form.ensures)
