use Rattle.std.proofs.Common.{◌∙◌, ap, subst}
use Rattle.yices_parser.specs.Steps.{Leaves, opened_at}
use Rattle.yices_commands.specs.declared.state.Opened.TheVariants as opened
use Rattle.yices_commands.specs.declared.command.Expr.{roll-Expr}
use Rattle.yices_commands.specs.declared.command.ExprForm.TheVariants as form
use Rattle.yices_parser.proofs.expressions.applied.Goals as goal

pub returns : goal.returns
returns c = λ p.
    subst (λ m. Leaves p m c.open.result)
    (ap (λ w. opened_at p c.args.around c.args.place (opened.Apply (roll-Expr (record { place = c.args.at; form = form.Name w })) c.new-2.result)) c.in_ok-new.ensures
    ∙ ap (λ es. opened_at p c.args.around c.args.place (opened.Apply (roll-Expr (record { place = c.args.at; form = form.Name c.args.word.now })) es)) c.new-2.ensures)
    (c.open.ensures p)
